-- A row of bytes filled by one copy. Assumes nothing.
use Prim.Native.Nat.{ℕ, zero, suc, ◌+◌, ◌-◌, ◌≤◌}
use native.Mathlib.Omega.{arith}
use native.Mathlib.Nat.{zero-add}
use mathlib.Core.Path.{◌≡◌, refl, ◌∙◌}
use mathlib.Core.List.{List, [], ◌∷◌}
use lib.ListN.{length, get_or, take, drop}
use lib.Seq.{sets}
use Rattle.laws.specs.Tab.{tab}
use Rattle.laws.proofs.Tab.{length-tab, tab_snoc}
use Rattle.laws.specs.Copies.{copied_in}
use Rattle.laws.proofs.Copying.{copied_all}
use Rattle.laws.proofs.Stores.{sets_append}
use Rattle.copying.proofs.Runs.{length_taken, taken}
use Rattle.questions.specs.Fills.{filled_to}

stored-filled : (f : ℕ → ℕ) (out : List ℕ) (n : ℕ) → sets out 0 (tab n f) ≡ filled_to f out n
unfolding tab filled_to
stored-filled f out zero = refl
stored-filled f out (suc n) = rw (tab_snoc n f, sets_append (tab n f) (f n ∷ []) out 0, length-tab n f, zero-add n, stored-filled f out n)

-- n bytes of s from `from` on, copied to the beginning
pub front_filled : (s : List ℕ) (from : ℕ) (out : List ℕ) (n : ℕ) {y : List ℕ} → from + n ≤ length s → n ≤ length out → y ≡ copied_in out 0 (take ((from + n) - from) (drop from s))
    → y ≡ filled_to (λ i. get_or s (from + i) 0) out n
front_filled s from out n h l q =
    let k : (from + n) - from ≡ n = omega arith in
    let t : length (take n (drop from s)) ≡ n = length_taken s from n h in
    rw k at q ∙ copied_all out 0 (take n (drop from s)) (omega arith) ∙ rw (← taken s from n h) (stored-filled (λ i. get_or s (from + i) 0) out n)
