-- No type has more names, or more cells, than there are places for. Assumes nothing.
use Prim.Native.Nat.{ℕ, ◌≤◌}
use native.Mathlib.Omega.{arith}
use mathlib.Core.Path.{◌≡◌}
use mathlib.Core.Bool.{true}
use Rattle.kinds.specs.Types.{extent_of}
use Rattle.places.specs.Places.{has_name}
use Rattle.places.proofs.CodePlaces.{within_low, within-high}
use Rattle.places.proofs.Fitting.{extents_small}

pub few-cells : (kind : ℕ) → (extent_of kind).cells ≤ 256
few-cells kind = (extents_small kind).cells_small

pub few_names : (kind name : ℕ) → has_name kind name ≡ true → (1 ≤ name) × (name ≤ 8)
unfolding has_name
few_names kind name e =
    (within_low name (extent_of kind).names e, omega (arith, within-high name (extent_of kind).names e, (extents_small kind).names_small))
