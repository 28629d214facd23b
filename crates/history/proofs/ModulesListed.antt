-- The lesser statements of specs/Demand3.antt: a run in order, and the number of modules listed. Assumes nothing.
use Prim.Native.Nat.{ℕ, zero, suc, ◌+◌, ◌<◌, ◌≤◌}
use native.Mathlib.Omega.{arith}
use mathlib.Core.Path.{◌≡◌, refl, sym}
use mathlib.Core.Bool.{Bool, true, false}
use mathlib.Core.Logic.{◌≢◌}
use mathlib.Core.List.{List, [], ◌∷◌, reverse_aux}
use mathlib.Core.Option.{Option, none, some}
use lib.Dec.{eqb}
use borrow.Author.Tests.{eqb-true, eqb-false, ne_eqb}
use Rattle.shape.specs.Limits.{addresses}
use Rattle.places.specs.Runs.{Meaning, refuses, names, enters}
use Rattle.history.specs.Standing.{Frame, address, meaning, typed, standing_type, more, listed, Event}
use Rattle.history.specs.Asked.{yes_if}
use Rattle.history.specs.Demand3.{listed_below, ListedIs, run_bytes, runs_bytes, InOrder}
use Rattle.history.proofs.Shows.{other_type, here_type}

runs_from : (b : List ℕ) (d : ℕ) (es h : List Event) → runs_bytes (run_bytes b d h) es ≡ run_bytes b d (reverse_aux es h)
unfolding runs_bytes run_bytes
runs_from b d [] h = refl
runs_from b d (e ∷ es) h = runs_from b d es (e ∷ h)

pub in_order : InOrder
unfolding run_bytes
in_order b d es = runs_from b d es []

none_below : (n : ℕ) → listed_below n [] ≡ 0
unfolding listed_below standing_type
none_below zero = refl
none_below (suc n) = rw (none_below n)

one_more_lem : (t : Option ℕ) (r : Meaning) (n : ℕ) → yes_if (typed true r t) + n ≡ more t r (yes_if t + n)
unfolding typed more
one_more_lem t (refuses c) n = refl
one_more_lem t (names r) n = refl
one_more_lem none (enters k r) n = omega arith
one_more_lem (some t) (enters k r) n = refl

more_later : (t : Option ℕ) (r : Meaning) (x n : ℕ) → x + more t r n ≡ more t r (x + n)
unfolding more
more_later t (refuses c) x n = refl
more_later t (names r) x n = refl
more_later none (enters k r) x n = omega arith
more_later (some t) (enters k r) x n = refl

module _ (f : Frame) (S : List Frame) where
  above : (n : ℕ) → n ≤ address f → listed_below n (f ∷ S) ≡ listed_below n S
  unfolding listed_below
  above zero h = refl
  above (suc n) h = rw (other_type f S n (ne_eqb (address f) n (omega arith)), above n (omega arith))

  below : (n : ℕ) → address f < n → listed_below n (f ∷ S) ≡ more (standing_type S (address f)) (meaning (standing_type S (address f)) f) (listed_below n S)
  unfolding listed_below
  below zero h = absurd (omega arith)
  below (suc n) h = go (eqb (address f) n) refl (below n)
    where
      go : (c : Bool) → eqb (address f) n ≡ c
          → (address f < n → listed_below n (f ∷ S) ≡ more (standing_type S (address f)) (meaning (standing_type S (address f)) f) (listed_below n S))
          → yes_if (standing_type (f ∷ S) n) + listed_below n (f ∷ S) ≡ more (standing_type S (address f)) (meaning (standing_type S (address f)) f) (yes_if (standing_type S n) + listed_below n S)
      go true e ih =
          rw (← (eqb-true (address f) n e), above (address f) (omega arith), here_type f S (meaning (standing_type S (address f)) f) refl)
          (one_more_lem _ _ _)
      go false e ih = let d : address f ≢ n = eqb-false (address f) n e in rw (other_type f S n e, ih (omega arith)) (more_later _ _ _ _)

below_all : (f : Frame) → address f < addresses
below_all f = omega arith

pub listed_is : ListedIs
unfolding listed
listed_is [] = sym (none_below addresses)
listed_is (f ∷ S) = rw (listed_is S) (sym (below f S addresses (below_all f)))
