-- `stores::entries::lies` meets its contract. Assumes nothing.
use Rattle.std.proofs.Common.{rules}
use Rattle.stores.proofs.entries.lies.Goals as goal

pub returns : goal.returns
returns c = rw (c.both-2.ensures, c.both.ensures)
