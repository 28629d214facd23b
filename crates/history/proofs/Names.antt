-- The count of a name's told characters, as specs/Names.antt states it. Assumes nothing.
use Prim.Native.Nat.{ℕ, zero, suc, ◌+◌, ◌<◌, ◌≤◌}
use native.Mathlib.Omega.{arith}
use mathlib.Core.Path.{◌≡◌, refl, ap, ◌∙◌}
use mathlib.Core.Logic.{◌≢◌}
use mathlib.Core.Bool.{Bool, true, false}
use mathlib.Core.List.{List, [], ◌∷◌, ◌++◌}
use lib.Dec.{eqb}
use lib.ListN.{length}
use borrow.Author.Tests.{eqb-true, eqb-false}
use Rattle.laws.specs.Tab.{tab}
use Rattle.laws.proofs.Tab.{tab_snoc}
use Rattle.history.specs.Standing.{Known, unknown, told}
use Rattle.history.specs.Asked.{heard_of, count_told}
use Rattle.history.specs.Names.{only_told, WholeIsSixteen}

-- 1 for told, 0 for unknown
unknown_not_told : (v : ℕ) → told v ≢ unknown
unknown_not_told v e = let z : ◌≡◌ {A = ℕ} 0 1 = cc in omega arith

heard_told : (k : Known) → heard_of k ≡ 1 → k ≢ unknown
heard_told unknown e = absurd (omega arith)
heard_told (told v) e = unknown_not_told v

told_heard : (k : Known) → k ≢ unknown → heard_of k ≡ 1
told_heard unknown n = absurd (n refl)
told_heard (told v) n = refl

heard_once : (k : Known) → heard_of k ≤ 1
heard_once unknown = omega arith
heard_once (told v) = omega arith

module _ (name : ℕ → Known) where
  few : (n : ℕ) → count_told n name ≤ n
  unfolding count_told
  few zero = omega arith
  few (suc n) = omega (arith, few n, heard_once (name n))

  each : (n : ℕ) → count_told n name ≡ n → (i : ℕ) → i < n → heard_of (name i) ≡ 1
  unfolding count_told
  each zero e i h = absurd (omega arith)
  each (suc n) e i h =
      let last : heard_of (name n) ≡ 1 = omega (arith, few n, heard_once (name n)) in
      go (eqb i n) refl last (each n (omega (arith, few n, heard_once (name n))))
    where
      go : (t : Bool) → eqb i n ≡ t → heard_of (name n) ≡ 1 → ((i : ℕ) → i < n → heard_of (name i) ≡ 1) → heard_of (name i) ≡ 1
      go true q last before = rw (eqb-true i n q) last
      go false q last before = before i (omega (arith, eqb-false i n q))

  all : (n : ℕ) → ((i : ℕ) → i < n → heard_of (name i) ≡ 1) → count_told n name ≡ n
  unfolding count_told
  all zero h = refl
  all (suc n) h = omega (arith, all n (λ i l. h i (omega arith)), h n (omega arith))

-- ---- the count is the number of those told
one_more_lem : (ks : List Known) (k : Known) → length (only_told (ks ++ (k ∷ []))) ≡ length (only_told ks) + heard_of k
unfolding only_told
one_more_lem [] unknown = refl
one_more_lem [] (told v) = refl
one_more_lem (unknown ∷ ks) k = one_more_lem ks k
one_more_lem (told v ∷ ks) k = omega (arith, one_more_lem ks k)

as_many : (name : ℕ → Known) (n : ℕ) → count_told n name ≡ length (only_told (tab n name))
unfolding count_told tab only_told
as_many name zero = refl
as_many name (suc n) =
    let more : length (only_told (tab (suc n) name)) ≡ length (only_told (tab n name)) + heard_of (name n) = ap (λ (ks : List Known). length (only_told ks)) (tab_snoc n name) ∙ one_more_lem (tab n name) (name n) in
    omega (arith, as_many name n, more)

pub whole_is_sixteen : WholeIsSixteen
whole_is_sixteen =
    record {
      counts = λ name. as_many name 16;
      whole = λ name e i h. heard_told (name i) (each name 16 e i h);
      all_told = λ name h. all name 16 (λ i l. told_heard (name i) (h i l));
    }
