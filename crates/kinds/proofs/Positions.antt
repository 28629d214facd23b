-- Laws of a channel's place among those of its type.
--     position_most      it is at most their number
--     position_none      and that number where it is none of them
--     among_position     it is below that number just where it is one of them
--     blind_few          a blind's number is 1 to 3, where 3 is no blind's
--     up_small           and its up bit at most 16
-- Assumes nothing.
use Prim.Native.Nat.{ℕ, suc, ◌-◌, ◌≤◌}
use native.Mathlib.Omega.{arith}
use native.Mathlib.Nat.{pow-le-pow_right}
use mathlib.Core.Path.{◌≡◌, refl, sym, ap, ◌∙◌}
use mathlib.Core.Bool.{Bool, true, false, cond}
use mathlib.Core.List.{List, [], ◌∷◌}
use lib.Dec.{eqb, leb, ltb, leb-suc-zero, leb-suc-suc}
use lib.ListN.{length}
use borrow.Author.Tests.{leb-true, lt-ltb, ne_eqb}
use Rattle.laws.specs.Tests.{among}
use Rattle.laws.proofs.Keys.{NoneOf, Misses, misses}
use Rattle.kinds.specs.Types.{Line, blinds_of, position_in, blind_of, up_bit}
use Rattle.kinds.proofs.Listed.{of-line}

pub position_most : (ks : List ℕ) (x : ℕ) → position_in ks x ≤ length ks
unfolding position_in
position_most [] x = omega arith
position_most (k ∷ ks) x = go (eqb x k) (position_most ks x)
  where
    go : (b : Bool) → position_in ks x ≤ length ks → cond b 0 (suc (position_in ks x)) ≤ suc (length ks)
    go true h = omega arith
    go false h = omega arith

position_misses : (ks : List ℕ) (x : ℕ) → Misses x ks → position_in ks x ≡ length ks
unfolding position_in
position_misses [] x h = refl
position_misses (k ∷ ks) x h = rw (ne_eqb x k h.0) (ap suc (position_misses ks x h.1))

pub position_none : (ks : List ℕ) (x : ℕ) → NoneOf (Unit {0}) x ks → position_in ks x ≡ length ks
position_none ks x h = position_misses ks x (misses x ks h)

pub among_position : (ks : List ℕ) (x : ℕ) → among x ks ≡ ltb (position_in ks x) (length ks)
unfolding position_in
among_position [] x = sym (leb-suc-zero 0)
among_position (k ∷ ks) x = go (eqb x k) (among_position ks x)
  where
    go : (b : Bool) → among x ks ≡ ltb (position_in ks x) (length ks) → cond b true (among x ks) ≡ ltb (cond b 0 (suc (position_in ks x))) (suc (length ks))
    go true h = sym (lt-ltb 0 (suc (length ks)) (omega arith))
    go false h = h ∙ sym (leb-suc-suc (suc (position_in ks x)) (length ks))

pub blind_few : (kind channel : ℕ) → (1 ≤ blind_of kind channel) × (blind_of kind channel ≤ 3)
unfolding blind_of
blind_few kind channel =
    let few = leb-true (length (blinds_of kind)) 2 (of-line (λ (l : Line). leb (length l.blinds) 2) refl refl kind) in
    let most = position_most (blinds_of kind) channel in
    (omega arith, omega arith)

pub up_small : (kind channel : ℕ) → up_bit (blind_of kind channel) ≤ 16
up_small kind channel = let few = blind_few kind channel in pow-le-pow_right {n = 4} (omega arith) {j = 2} (omega arith)
