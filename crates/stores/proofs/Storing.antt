-- Laws of bytes stored and copied that the code's proofs cite. Assumes nothing.
use Rattle.std.proofs.Common.{◌≡◌, ℕ, zero, suc, ◌+◌, ◌-◌, ◌<◌, ◌≤◌, ◌≢◌, List, [], ◌∷◌, get_or, set, refl, ◌∙◌, add-zero, arith, get_or-set_other}
use Rattle.laws.specs.Tab.{tab}
use Rattle.laws.proofs.Tab.{get_d_tab}
use Rattle.shape.specs.Limits.{ring}
use Rattle.shape.specs.Head.{next_of}
use Rattle.stores.specs.Stores.{stored, copied}

pub next_small : (b : List ℕ) → next_of b < ring
unfolding next_of
next_small b = omega arith

-- ---- eight bytes, each stored by itself
pub stored_eight : (b : List ℕ) (o : ℕ) (row : List ℕ) → set (set (set (set (set (set (set (set b o (get_or row 0 0)) (o + 1) (get_or row 1 0)) (o + 2) (get_or row 2 0)) (o + 3) (get_or row 3 0)) (o + 4) (get_or row 4 0)) (o + 5) (get_or row 5 0)) (o + 6) (get_or row 6 0)) (o + 7) (get_or row 7 0) ≡ stored b o row 8
unfolding stored
stored_eight b o row = simp add-zero

-- ---- bytes copied m + n or more away: the last n of them may be a row that was loaded before one was stored
copied_beside : (b : List ℕ) (to from n i : ℕ) → ((j : ℕ) → j < n → i ≢ to + j) → get_or (copied b to from n) i 0 ≡ get_or b i 0
unfolding copied
copied_beside b to from zero i h = refl
copied_beside b to from (suc n) i h =
    get_or-set_other (copied b to from n) (to + n) i _ 0 (h n (omega arith)) ∙ copied_beside b to from n i (λ j l. h j (omega arith))

loaded_on :
    (b : List ℕ) (to from m n o f : ℕ) (row : List ℕ) →
    o ≡ to + m →
    f ≡ from + m →
    ((j : ℕ) → j < n → get_or row j 0 ≡ get_or b (f + j) 0) →
    m + n ≤ (to - from) + (from - to) →
    stored (copied b to from m) o row n ≡ copied b to from (m + n)
unfolding stored copied
loaded_on b to from m zero o f row d e h l = let z : m + 0 ≡ m = omega arith in rw z
loaded_on b to from m (suc n) o f row d e h l =
    let z : m + suc n ≡ suc (m + n) = omega arith in
    let p : o + n ≡ to + (m + n) = omega arith in
    let q : f + n ≡ from + (m + n) = omega arith in
    rw (
      loaded_on b to from m n o f row d e (λ j k. h j (omega arith)) (omega arith),
      h n (omega arith),
      z,
      p,
      q,
      copied_beside b to from (m + n) (from + (m + n)) (λ j k. omega arith),
    )

-- two rows of eight, both loaded before one is stored
pub copied_sixteen :
    (b : List ℕ) (to from : ℕ) {r s x y : List ℕ} →
    16 ≤ (to - from) + (from - to) →
    r ≡ tab 8 (λ j. get_or b (from + j) 0) →
    s ≡ tab 8 (λ j. get_or b (from + 8 + j) 0) →
    x ≡ stored b to r 8 →
    y ≡ stored x (to + 8) s 8 →
    y ≡ copied b to from 16
unfolding copied
copied_sixteen b to from {r} {s} h p q e f =
    let first = loaded_on b to from 0 8 to from r (omega arith) (omega arith) (λ j l. rw p (get_d_tab 8 (λ j. get_or b (from + j) 0) j 0 l)) (omega arith) in
    f ∙ rw (e, first) (loaded_on b to from 8 8 (to + 8) (from + 8) s refl refl (λ j l. rw q (get_d_tab 8 (λ j. get_or b (from + 8 + j) 0) j 0 l)) h)

-- ---- four bytes, each stored by itself
pub stored_four : (b : List ℕ) (o p q r s : ℕ) → set (set (set (set b o p) (o + 1) q) (o + 2) r) (o + 3) s ≡ stored b o (p ∷ q ∷ r ∷ s ∷ []) 4
unfolding stored
stored_four b o p q r s = simp add-zero
