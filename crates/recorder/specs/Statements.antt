-- What holds of recordings that are written, and both ways round; proofs/ proves each statement.
use Rattle.std.specs.Prelude.{ℕ, ◌+◌, ◌-◌, ◌≡◌, List, ◌++◌, true, length, take, drop, Ok}
use Rattle.laws.specs.Limits.{AllBytes}
use Rattle.recording.specs.Limits.{in_range}
use Rattle.recording.specs.Record.{recorded, read_record}
use Rattle.recorder.specs.Write.{record_bytes, put_answer, put_bytes}

-- at `at` of the input s stands, up to `next`, the record of these numbers and data
abbrev pub StandsAt : List ℕ → ℕ → ℕ → ℕ → ℕ → List ℕ → ℕ → Type 0
StandsAt s at gap identifier remote ds next =
    (read_record s at ≡ recorded gap identifier remote (next - length ds) (length ds) next) × (take (length ds) (drop (next - length ds) s) ≡ ds)

-- a record's bytes read back as the record, whatever stands before and after
abbrev pub BytesReadBack : Type 0
BytesReadBack =
    (before after : List ℕ) (gap identifier remote : ℕ) (ds : List ℕ) → in_range gap identifier remote (length ds) ≡ true
    → StandsAt (before ++ (record_bytes gap identifier remote ds ++ after)) (length before) gap identifier remote ds (length before + length (record_bytes gap identifier remote ds))

-- a record that the writer put at a place is read at that place
abbrev pub WrittenIsRead : Type 0
WrittenIsRead =
    (b : List ℕ) (at gap identifier remote : ℕ) (ds : List ℕ) (n : ℕ) → put_answer b at gap identifier remote ds ≡ Ok n
    → StandsAt (put_bytes b at gap identifier remote ds) at gap identifier remote ds (at + n)

-- a record that is read, and written again where it was, is the same bytes
abbrev pub ReadIsWritten : Type 0
ReadIsWritten =
    (s : List ℕ) → AllBytes s → (at gap identifier remote start len next : ℕ) → read_record s at ≡ recorded gap identifier remote start len next
    → (put_answer s at gap identifier remote (take len (drop start s)) ≡ Ok (next - at)) × (put_bytes s at gap identifier remote (take len (drop start s)) ≡ s)
