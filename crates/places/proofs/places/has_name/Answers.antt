-- `places::places::has_name` meets its contract. Assumes nothing.
use Rattle.places.specs.Places.{has_name}
use Rattle.places.proofs.places.has_name.Goals as goal

pub returns : goal.returns
unfolding has_name
returns c = rw (← c.wide32.ensures, ← c.extent_of-e.ensures) c.within.ensures
