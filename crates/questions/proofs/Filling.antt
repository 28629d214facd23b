-- Laws of the definitions of specs/Fills.antt that the code's proofs cite.
-- Assumes nothing.
use Prim.Native.Nat.{ℕ, zero, suc, ◌+◌, ◌*◌, ◌/◌, ◌%◌, ◌<◌, ◌≤◌}
use native.Mathlib.Omega.{arith}
use native.Mathlib.Numerals.{add-one}
use mathlib.Core.Path.{◌≡◌, refl, sym, ◌∙◌}
use mathlib.Core.Bool.{Bool, true, false, cond}
use mathlib.Core.List.{List}
use lib.Dec.{eqb}
use lib.ListN.{length, get_or, set, length-set}
use lib.Seq.{get_or-set_same, get_or-set_other}
use borrow.Author.Tests.{eqb-true, eqb-false, lt-leb, le-leb}
use Rattle.laws.specs.Limits.{AllBytes}
use Rattle.laws.specs.Refusals.{too_short}
use Rattle.places.specs.Places.{Row}
use Rattle.shape.specs.Layout.{place_at}
use Rattle.questions.specs.Question.{refusing, value}
use Rattle.questions.specs.Fills.{filled_to, filling, value_at, heard_at, row_number, low_first, sum_to, heard_in}

-- ---- loops that fill, and a loop that adds
module _ (f : ℕ → ℕ) where
  pub filled_none : (out : List ℕ) → out ≡ filled_to f out 0
  unfolding filled_to
  filled_none out = refl

  pub filled_more : (out : List ℕ) (n : ℕ) {x y : List ℕ} {v : ℕ} → x ≡ filled_to f out n → v ≡ f n → y ≡ set x n v → y ≡ filled_to f out (n + 1)
  unfolding filled_to
  filled_more out n p e q = rw (add-one, ← p, ← e) q

  pub length-filled : (out : List ℕ) (n : ℕ) → length (filled_to f out n) ≡ length out
  unfolding filled_to
  length-filled out zero = refl
  length-filled out (suc n) = length-set (filled_to f out n) n (f n) ∙ length-filled out n

  pub filled_at : (out : List ℕ) (n i : ℕ) → n ≤ length out → i < n → get_or (filled_to f out n) i 0 ≡ f i
  unfolding filled_to
  filled_at out zero i h l = absurd (omega arith)
  filled_at out (suc n) i h l = go (eqb i n) refl (filled_at out n i (omega arith))
    where
      go : (t : Bool) → eqb i n ≡ t → (i < n → get_or (filled_to f out n) i 0 ≡ f i) → get_or (set (filled_to f out n) n (f n)) i 0 ≡ f i
      go true e p = rw (eqb-true i n e) (get_or-set_same (filled_to f out n) n (f n) 0 (rw length-filled (omega arith)))
      go false e p = get_or-set_other (filled_to f out n) n i (f n) 0 (eqb-false i n e) ∙ p (omega (arith, eqb-false i n e))

  pub sum-none : 0 ≡ sum_to f 0
  unfolding sum_to
  sum-none = refl

  pub sum_more : (n : ℕ) {s v : ℕ} → s ≡ sum_to f n → v ≡ f n → s + v ≡ sum_to f (n + 1)
  unfolding sum_to
  sum_more n p e = rw (add-one, ← p, ← e)

-- what two functions give alike
module _ (f g : ℕ → ℕ) where
  pub filled_ext : (out : List ℕ) (n : ℕ) → ((i : ℕ) → i < n → f i ≡ g i) → filled_to f out n ≡ filled_to g out n
  unfolding filled_to
  filled_ext out zero h = refl
  filled_ext out (suc n) h = rw (filled_ext out n (λ i l. h i (omega arith)), h n (omega arith))

  pub sum_ext : (n : ℕ) → ((i : ℕ) → i < n → f i ≡ g i) → sum_to f n ≡ sum_to g n
  unfolding sum_to
  sum_ext zero h = refl
  sum_ext (suc n) h = rw (sum_ext n (λ i l. h i (omega arith)), h n (omega arith))

-- n that f gives, where the code has m for n: 13, or filled, with the answer that it has for v
module _ (v : ℕ) (f : ℕ → ℕ) (n : ℕ) (out : List ℕ) {m : ℕ} (e : m ≡ n) where
  pub fill-short : length out < m → refusing too_short out ≡ filling v f n out
  unfolding filling
  fill-short h = rw (rw e at (lt-leb m (length out) h))

  pub fill_done : m ≤ length out → {w : ℕ} {x : List ℕ} → w ≡ v → x ≡ filled_to f out m → value w x ≡ filling v f n out
  unfolding filling
  fill_done h q p = rw (rw e at (le-leb m (length out) h), ← e, ← p, ← q)

-- ---- a row of places, whose first byte is at o
-- the two bytes of a number, each by itself
low_of : (b : List ℕ) (o : ℕ) → AllBytes b → value_at b o % 256 ≡ get_or b o 0
low_of b o bytes = omega (arith, bytes o)

high-of : (b : List ℕ) (o : ℕ) → AllBytes b → value_at b o / 256 ≡ get_or b (o + 1) 0
high-of b o bytes = omega (arith, bytes o)

module _ (b : List ℕ) (s : ℕ) (row : Row) {o : ℕ} (e : o ≡ place_at s row.start) (out : List ℕ) (n : ℕ) {x : List ℕ} where
  pub row_numbers : x ≡ filled_to (λ i. value_at b (o + 2 * i)) out n → x ≡ filled_to (row_number b s row) out n
  row_numbers p = p ∙ filled_ext (λ i. value_at b (o + 2 * i)) (row_number b s row) out n (λ i l. let q : o + 2 * i ≡ place_at s (row.start + i) = omega arith in rw q)

  pub row_bytes : AllBytes b → x ≡ filled_to (λ j. get_or b (o + j) 0) out n → x ≡ filled_to (low_first (row_number b s row)) out n
  row_bytes bytes p = p ∙ filled_ext (λ j. get_or b (o + j) 0) (low_first (row_number b s row)) out n (λ j l. go j (eqb (j % 2) 0) refl)
    where
      go : (j : ℕ) (t : Bool) → eqb (j % 2) 0 ≡ t → get_or b (o + j) 0 ≡ cond t (row_number b s row (j / 2) % 256) (row_number b s row (j / 2) / 256)
      go j true d =
          let even = eqb-true (j % 2) 0 d in
          let q : o + j ≡ place_at s (row.start + j / 2) = omega arith in
          rw q (sym (low_of b (place_at s (row.start + j / 2)) bytes))
      go j false d =
          let odd = eqb-false (j % 2) 0 d in
          let q : o + j ≡ place_at s (row.start + j / 2) + 1 = omega arith in
          rw q (sym (high-of b (place_at s (row.start + j / 2)) bytes))

-- and how many of them are told
pub row_heard : (b : List ℕ) (s : ℕ) (row : Row) {o w : ℕ} → o ≡ place_at s row.start → w ≡ sum_to (λ i. heard_at b (o + 2 * i)) row.count → w ≡ heard_in b s row
row_heard b s row {o} e p =
    p ∙ sum_ext (λ i. heard_at b (o + 2 * i)) (λ i. heard_at b (place_at s (row.start + i))) row.count (λ i l. let q : o + 2 * i ≡ place_at s (row.start + i) = omega arith in rw q)
