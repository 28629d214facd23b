-- What holds of the questions beyond each function's own contract. The proofs are proofs/RowBytes.antt and proofs/Counts.antt.
use Rattle.std.specs.Prelude.{ℕ, ◌/◌, ◌%◌, ◌≡◌, List, [], ◌∷◌, cond, ltb, get_or, Some, Ok}
use Rattle.laws.specs.Limits.{AllBytes}
use Rattle.questions.specs.Question.{Question, name_row, name_bytes, memory_row, memory_bytes, Reply}
use Rattle.questions.specs.Fills.{sum_to}
use Rattle.questions.specs.Replies.{reply}

-- a row of numbers as bytes: two for each, low byte first
unfoldable pub in_bytes : List ℕ → List ℕ
in_bytes [] = []
in_bytes (n ∷ row) = n % 256 ∷ n / 256 ∷ in_bytes row

abbrev pub reply_in_bytes : Reply → Reply
reply_in_bytes r = record { answer = r.answer; buffer = in_bytes r.buffer }

-- what C is given is the row of numbers: any row, lent as bytes, is answered alike, and then holds the same
abbrev pub SameInBytes : Question → Question → Type 0
SameInBytes numbers bytes = (b : List ℕ) (a : ℕ) (row : List ℕ) → reply b a bytes (in_bytes row) ≡ reply_in_bytes (reply b a numbers row)

pub record RowsAreBytes : Type 0 where
  pub names : (n : ℕ) → SameInBytes (name_row n) (name_bytes n)
  pub memory : SameInBytes memory_row memory_bytes

-- of the first sixteen numbers of a row, how many are those of heard characters
abbrev pub heard_of : List ℕ → ℕ
heard_of row = sum_to (λ i. cond (ltb (get_or row i 0) 256) 1 0) 16

-- the count that the question on a name gives is that of the row which it filled: no answer is a mixture of two
abbrev pub CountIsOfRow : Type 0
CountIsOfRow =
    (b : List ℕ) → AllBytes b → (a n : ℕ) (row : List ℕ) (count : ℕ)
    → (reply b a (name_row n) row).answer ≡ Ok (Some count) → count ≡ heard_of (reply b a (name_row n) row).buffer
