-- `places::places::led_asked` meets its contract. Assumes nothing.
use native.Mathlib.Omega.{arith}
use Rattle.places.specs.Places.{led_asked}
use Rattle.places.proofs.Fitting.{extents_small}
use Rattle.places.proofs.places.led_asked.Goals as goal

pub numbered-requires : goal.numbered-requires
numbered-requires c = rw c.extent_of-e.ensures (omega (arith, (extents_small c.wide32.result).leds_small))

pub returns-clause-value : goal.returns-clause-value
unfolding led_asked
returns-clause-value c = rw (← c.wide32.ensures, ← c.extent_of-e.ensures) c.numbered.ensures.value
