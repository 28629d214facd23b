-- `fields::fields::of_blinds` meets its contract.
-- Assumes nothing.
use Rattle.kinds.specs.Types.{extent_of}
use Rattle.fields.proofs.fields.of_blinds.Goals as goal

pub returns : goal.returns
unfolding extent_of
returns c = rw (c.either.ensures, c.extent_of-e.ensures)
