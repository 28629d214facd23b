-- Laws of the definitions of specs/Places.antt that the code's proofs cite.
-- Assumes nothing.
use Prim.Native.Nat.{ℕ, ◌≤◌}
use mathlib.Core.Path.{◌≡◌}
use mathlib.Core.Bool.{true}
use lib.Dec.{leb}
use borrow.Author.Tests.{leb-true}
use Rattle.laws.proofs.Testing.{and_both}
use Rattle.places.specs.Places.{within}

pub within_low : (n most : ℕ) → within n most ≡ true → 1 ≤ n
within_low n most e = leb-true 1 n (and_both (leb 1 n) (leb n most) e).0

pub within-high : (n most : ℕ) → within n most ≡ true → n ≤ most
within-high n most e = leb-true n most (and_both (leb 1 n) (leb n most) e).1
