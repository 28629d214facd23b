-- `places::places::blind_asked` meets its contract. Assumes nothing.
use native.Mathlib.Omega.{arith}
use Rattle.places.specs.Places.{blind_asked}
use Rattle.places.proofs.Fitting.{extents_small}
use Rattle.places.proofs.places.blind_asked.Goals as goal

pub numbered-requires : goal.numbered-requires
numbered-requires c = rw c.extent_of-e.ensures (omega (arith, (extents_small c.wide32.result).blinds_small))

pub returns-clause-value : goal.returns-clause-value
unfolding blind_asked
returns-clause-value c = rw (← c.wide32.ensures, ← c.extent_of-e.ensures) c.numbered.ensures.value
