-- `stores::back::leave` meets its contract. Assumes nothing.
use Rattle.std.proofs.Common.{rules}
use Rattle.stores.proofs.back.leave.Goals as goal

pub returns : goal.returns
returns c = cc
