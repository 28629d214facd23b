-- `steering::clearing::fresh` meets its contract. Assumes nothing.
use Rattle.std.proofs.Common.{rules}
use Rattle.steering.specs.Fresh.{freshening}
use Rattle.steering.proofs.clearing.fresh.Goals as goal

pub returns : goal.returns
unfolding freshening
returns c = c.fresh_with.ensures
