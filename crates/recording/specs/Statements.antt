-- What holds of recordings that are read; proofs/ proves each statement.
use Rattle.std.specs.Prelude.{ℕ, ◌+◌, ◌≤◌, ◌<◌, ◌≡◌, List, ◌++◌, map, true, false, ◌⊎◌, length, take}
use Rattle.laws.specs.Refusals.{cut_off, bad_number}
use Rattle.laws.specs.Limits.{AllBytes}
use Rattle.recording.specs.Limits.{longest, old_most_gap, in_range}
use Rattle.recording.specs.Record.{recorded, Broken, read_within, read_record}
use Rattle.recording.specs.Window.{settled, is_record, further}
use Rattle.recording.specs.Examples.{examples, Row}

-- a record's numbers are in range, and it lies between `at` and the end of the n bytes
pub record Whole (n at gap identifier remote start len next : ℕ) : Type 0 where
  pub in_range : in_range gap identifier remote len ≡ true
  pub starts : at < start
  pub ends : next ≡ start + len
  pub inside : next ≤ n

-- every record that is read is whole
abbrev pub RecordsAreWhole : Type 0
RecordsAreWhole =
    (s : List ℕ) (at gap identifier remote start len next : ℕ) → read_record s at ≡ recorded gap identifier remote start len next → Whole (length s) at gap identifier remote start len next

-- a fault has the offset of its byte for 16, and the input's length for 15
abbrev pub FaultsArePlaced : Type 0
FaultsArePlaced =
    (s : List ℕ) (at refusal offset : ℕ) → read_record s at ≡ Broken refusal offset
    → ((refusal ≡ cut_off) × (offset ≡ length s)) ⊎ ((refusal ≡ bad_number) × (at ≤ offset) × (offset < length s))

-- 16 is certain from its byte on: the bytes up to that one give it there, whatever follows them, and the bytes before it give 15 at their end
abbrev pub FaultIsCertain : Type 0
FaultIsCertain =
    (s : List ℕ) → AllBytes s → (at p : ℕ) → read_record s at ≡ Broken 16 p
    → ((t : List ℕ) → read_record (take (p + 1) s ++ t) at ≡ Broken 16 p) × (read_record (take p s) at ≡ Broken 15 p)

-- 15 is given at the input's length, and more bytes could mend it
abbrev pub CutCanBeMended : Type 0
CutCanBeMended =
    (s : List ℕ) (at n : ℕ) → read_record s at ≡ Broken 15 n → (n ≡ length s) × ((t : List ℕ) × AllBytes t × (is_record (read_record (s ++ t) at) ≡ true))

-- and wherever bytes of a record stand that more could make whole, 15 is given
abbrev pub MendableIsCut : Type 0
MendableIsCut =
    (s t : List ℕ) (at : ℕ) → at < length s → is_record (read_record s at) ≡ false → is_record (read_record (s ++ t) at) ≡ true
    → read_record s at ≡ Broken 15 (length s)

-- what is settled in a first part s of the input stands in the whole of it
abbrev pub WindowSettles : Type 0
WindowSettles = (s t : List ℕ) (at : ℕ) → settled (read_record s at) ≡ true → read_record (s ++ t) at ≡ read_record s at

-- what is not settled, because the part ends, is shorter than the longest record
abbrev pub LeftoverIsShort : Type 0
LeftoverIsShort = (s : List ℕ) (at : ℕ) → settled (read_record s at) ≡ false → length s < at + longest

-- what is found in a part that begins further on is found there in the whole
abbrev pub WindowMoves : Type 0
WindowMoves = (p s : List ℕ) (at : ℕ) → read_record (p ++ s) (length p + at) ≡ further (length p) (read_record s at)

-- an older recording reads as before: whatever its rule finds, 16 aside, is found today
abbrev pub OldRecordingsRead : Type 0
OldRecordingsRead = (s : List ℕ) (at : ℕ) → ((p : ℕ) → read_within old_most_gap s at ≡ Broken bad_number p → ⊥) → read_record s at ≡ read_within old_most_gap s at

-- every example is right
abbrev pub ExamplesHold : Type 0
ExamplesHold = map (λ (r : Row). r.given) examples ≡ map (λ (r : Row). r.right) examples
