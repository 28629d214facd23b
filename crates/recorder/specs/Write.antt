-- What writing a record gives: the answer, and the buffer's bytes.
use Rattle.std.specs.Prelude.{ℕ, ◌+◌, ◌*◌, List, ◌∷◌, ◌++◌, Bool, cond, leb, length, take, drop, Result, Ok, Err}
use Rattle.laws.specs.Answers.{Numbers, value, refusal}
use Rattle.laws.specs.Refusals.{too_short, bad_number}
use Rattle.recording.specs.Limits.{in_range}
use Rattle.groups.specs.Number.{bytes_of}

-- the bytes of a record
unfoldable pub record_bytes : ℕ → ℕ → ℕ → List ℕ → List ℕ
record_bytes gap identifier remote ds = bytes_of gap ++ (bytes_of (2 * identifier + remote) ++ (length ds ∷ ds))

-- of three: a number is out of range; else `bytes` have no room from `at` on in a buffer of n bytes; else they are put there
abbrev pub put_case : {A : Type 0} → Bool → ℕ → ℕ → List ℕ → A → A → A → A
put_case ranged n at bytes range room put = cond ranged (cond (leb (at + length bytes) n) put room) range

-- the count of the bytes written, or the refusal
unfoldable pub put_answer : List ℕ → ℕ → ℕ → ℕ → ℕ → List ℕ → Result ℕ ℕ
put_answer b at gap identifier remote ds =
    put_case (in_range gap identifier remote (length ds)) (length b) at (record_bytes gap identifier remote ds)
    (Err bad_number) (Err too_short) (Ok (length (record_bytes gap identifier remote ds)))

-- in the paper's numbers
abbrev pub put_numbers : Result ℕ ℕ → Numbers
put_numbers (Ok n) = value n
put_numbers (Err n) = refusal n

-- `bytes` at the place `at` of the buffer b, and every other byte as it was
abbrev pub placed : List ℕ → ℕ → List ℕ → List ℕ
placed b at bytes = take at b ++ (bytes ++ drop (at + length bytes) b)

-- the record's bytes at its place; a refusal changes none
unfoldable pub put_bytes : List ℕ → ℕ → ℕ → ℕ → ℕ → List ℕ → List ℕ
put_bytes b at gap identifier remote ds =
    put_case (in_range gap identifier remote (length ds)) (length b) at (record_bytes gap identifier remote ds)
    b b (placed b at (record_bytes gap identifier remote ds))
