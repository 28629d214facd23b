-- `bench::deeds::act_on` meets its contract. Assumes nothing.
use Rattle.bench.specs.Deeds.{done}
use borrow.Author.Rules.{rules}
use Rattle.bench.proofs.deeds.act_on.Goals as goal

pub returns-in-TypeRequest : goal.returns-in-TypeRequest
unfolding done
returns-in-TypeRequest c = rw c.in-TypeRequest.is

pub returns-in-Tells : goal.returns-in-Tells
unfolding done
returns-in-Tells c = rw c.in-Tells.is c.act.ensures
