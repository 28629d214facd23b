-- Rows filled into a lent buffer. Assumes nothing.
use Rattle.std.specs.Prelude.{ℕ, zero, suc, ◌+◌, ◌*◌, ◌/◌, ◌%◌, cond, List, eqb, leb, length, get_or, set}
use Rattle.laws.specs.Refusals.{too_short}
use Rattle.places.specs.Places.{Row}
use Rattle.shape.specs.Layout.{place_at}
use Rattle.questions.specs.Question.{Reply, value, refusing}

-- n numbers that f gives, from the buffer's beginning
unfoldable pub filled_to : (ℕ → ℕ) → List ℕ → ℕ → List ℕ
filled_to f out zero = out
filled_to f out (suc n) = set (filled_to f out n) n (f n)

-- 13 for a buffer of fewer than n; else it is filled, and the answer is v
unfoldable pub filling : ℕ → (ℕ → ℕ) → ℕ → List ℕ → Reply
filling v f n out = cond (leb n (length out)) (value v (filled_to f out n)) (refusing too_short out)

-- the two bytes of a place as one number, low byte first: the value, or 256 for not heard; and 1 for told, 0 for not heard
abbrev pub value_at : List ℕ → ℕ → ℕ
value_at b o = get_or b o 0 + 256 * get_or b (o + 1) 0

abbrev pub heard_at : List ℕ → ℕ → ℕ
heard_at b o = cond (eqb (get_or b (o + 1) 0) 0) 1 0

-- number i of a row of places of the module in slot s
abbrev pub row_number : List ℕ → ℕ → Row → ℕ → ℕ
row_number b s row i = value_at b (place_at s (row.start + i))

-- numbers as bytes: two for each, low byte first
abbrev pub low_first : (ℕ → ℕ) → ℕ → ℕ
low_first f j = cond (eqb (j % 2) 0) (f (j / 2) % 256) (f (j / 2) / 256)

-- a row of places as numbers, and as bytes, with the answer v
unfoldable pub numbers_fill : ℕ → List ℕ → ℕ → Row → List ℕ → Reply
numbers_fill v b s row out = filling v (row_number b s row) row.count out

unfoldable pub bytes_fill : ℕ → List ℕ → ℕ → Row → List ℕ → Reply
bytes_fill v b s row out = filling v (low_first (row_number b s row)) (2 * row.count) out

-- the sum of f below n
unfoldable pub sum_to : (ℕ → ℕ) → ℕ → ℕ
sum_to f zero = 0
sum_to f (suc n) = sum_to f n + f n

-- how many places of a row are told
abbrev pub heard_in : List ℕ → ℕ → Row → ℕ
heard_in b s row = sum_to (λ i. heard_at b (place_at s (row.start + i))) row.count
