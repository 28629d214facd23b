-- Laws of bytes copied in runs. Assumes nothing.
use Prim.Native.Nat.{ℕ, zero, suc, ◌+◌, ◌≤◌, ◌<◌}
use native.Mathlib.Omega.{arith}
use native.Mathlib.Nat.{add-zero, zero-add}
use native.Mathlib.Numerals.{add-one}
use mathlib.Core.Path.{◌≡◌, refl, sym, ap, ◌∙◌}
use mathlib.Core.List.{List, [], ◌∷◌}
use lib.ListN.{length, get_or, set, take, drop, length-take, length-drop}
use lib.Seq.{sets, length-sets, take_all, take-add, drop-drop, get_or-take, get_or-drop, ext_get_or}
use Rattle.laws.specs.Tab.{tab}
use Rattle.laws.proofs.Tab.{length-tab, get_d_tab}
use Rattle.laws.specs.Copies.{copied_in}
use Rattle.laws.proofs.Copying.{copied_all}
use Rattle.laws.proofs.Stores.{sets_append, sets_more}

-- n stores one after the other
stores : List ℕ → List ℕ → ℕ → ℕ → List ℕ
stores out row at zero = out
stores out row at (suc n) = set (stores out row at n) (at + n) (get_or row n 0)

stored : (out row : List ℕ) (at n : ℕ) → n ≤ length row → stores out row at n ≡ sets out at (take n row)
unfolding stores
stored out row at zero h = refl
stored out row at (suc n) h = rw (stored out row at n (omega arith), sets_more out row at n (omega arith), add-one n)

pub eight_stored :
    (out : List ℕ) (at : ℕ) (row : List ℕ) →
    length row ≡ 8 →
    set (set (set (set (set (set (set (set out at (get_or row 0 0)) (at + 1) (get_or row 1 0)) (at + 2) (get_or row 2 0)) (at + 3) (get_or row 3 0)) (at + 4) (get_or row 4 0)) (at + 5) (get_or row 5 0)) (at + 6) (get_or row 6 0)) (at + 7) (get_or row 7 0) ≡ sets out at row
unfolding stores
eight_stored out at row h =
    let all : stores out row at 8 ≡ sets out at row = stored out row at 8 (omega arith) ∙ rw (take_all 8 row (omega arith)) in
    simp add-zero at all

module _ (s : List ℕ) (from : ℕ) where
  pub length_taken : (n : ℕ) → from + n ≤ length s → length (take n (drop from s)) ≡ n
  length_taken n h = simp (length-take, length-drop) (omega arith)

  -- a run in two parts
  pub copied_on : (out : List ℕ) (to m n : ℕ) (x y : List ℕ) → from + m ≤ length s → x ≡ sets out to (take m (drop from s))
      → y ≡ sets x (to + m) (take n (drop (from + m) s)) → y ≡ sets out to (take (m + n) (drop from s))
  copied_on out to m n x y h p q = q ∙ rw (p, take-add m n (drop from s), drop-drop, sets_append, length_taken m h)

  -- a run by its elements
  pub taken : (n : ℕ) → from + n ≤ length s → tab n (λ i. get_or s (from + i) 0) ≡ take n (drop from s)
  taken n h =
      ext_get_or 0 (tab n (λ i. get_or s (from + i) 0)) (take n (drop from s)) (rw (length-tab, length_taken n h)) (λ i m.
      let k : i < n = rw length-tab at m in
      get_d_tab n (λ i. get_or s (from + i) 0) i 0 k ∙ sym (get_or-take n (drop from s) i 0 k ∙ get_or-drop from s i 0))

  pub eight_taken :
      from + 8 ≤ length s →
      get_or s from 0 ∷ get_or s (from + 1) 0 ∷ get_or s (from + 2) 0 ∷ get_or s (from + 3) 0 ∷ get_or s (from + 4) 0 ∷ get_or s (from + 5) 0 ∷ get_or s (from + 6) 0 ∷ get_or s (from + 7) 0 ∷ [] ≡ take 8 (drop from s)
  unfolding tab
  eight_taken h = rw (← taken 8 h) (simp add-zero)

-- n bytes more after the first i, which stand at the beginning
pub front_on : (bytes out₀ out : List ℕ) (i n : ℕ) {y : List ℕ} → i + n ≤ length bytes → out ≡ sets out₀ 0 (take i bytes) → y ≡ sets out i (take n (drop i bytes))
    → y ≡ sets out₀ 0 (take (i + n) bytes)
front_on bytes out₀ out i n h f q = copied_on bytes 0 out₀ 0 i n out _ (omega arith) f (rw zero-add q)

-- all of a list to the beginning, in two parts
pub copied_in_two : (s out : List ℕ) (m rest : ℕ) {x y : List ℕ} → m + rest ≡ length s → length s ≤ length out → x ≡ sets out 0 (take m s)
    → y ≡ copied_in x m (take rest (drop m s)) → y ≡ copied_in out 0 s
copied_in_two s out m rest {x} e h p q =
    let l : length x ≡ length out = ap length p ∙ simp length-sets in
    let t : length (take rest (drop m s)) ≡ rest = simp (length-take, length-drop) (omega arith) in
    let all : copied_in x m (take rest (drop m s)) ≡ sets x m (take rest (drop m s)) = copied_all x m (take rest (drop m s)) (omega arith) in
    copied_on s 0 out 0 m rest x _ (omega arith) p (rw zero-add (q ∙ all)) ∙ rw (e, take_all (length s) s (omega arith)) (sym (copied_all out 0 s (omega arith)))
