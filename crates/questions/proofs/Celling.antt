-- Laws of the question on a cell: every cell that a type has is a place. Assumes nothing.
use Prim.Native.Nat.{ℕ}
use native.Mathlib.Omega.{arith}
use mathlib.Core.Path.{◌≡◌}
use mathlib.Core.Bool.{true, false}
use mathlib.Core.List.{List, []}
use lib.Dec.{ltb}
use borrow.Author.Tests.{lt-ltb, ltb-true}
use Rattle.laws.specs.Refusals.{no_such_place}
use Rattle.kinds.specs.Types.{extent_of}
use Rattle.places.specs.Places.{places, cell_place, cell_asked}
use Rattle.std.specs.Prelude.{Err}
use Rattle.shape.specs.Layout.{place_at}
use Rattle.questions.specs.Replies.{answer_at, place_reply}
use Rattle.questions.proofs.Extents.{few-cells}

module _ (b : List ℕ) (s kind location : ℕ) where
  pub cell_there : ltb location (extent_of kind).cells ≡ true → answer_at b (place_at s (cell_place kind location)) ≡ (place_reply b s (cell_asked kind location) []).answer
  unfolding place_reply cell_asked
  cell_there e = rw (e, lt-ltb (cell_place kind location) places (omega (arith, few-cells kind, ltb-true location (extent_of kind).cells e)))

  pub no_cell_there : ltb location (extent_of kind).cells ≡ false → Err no_such_place ≡ (place_reply b s (cell_asked kind location) []).answer
  unfolding place_reply cell_asked
  no_cell_there e = rw e
