-- `stores::bytes::copy_sixteen` meets its contract. Assumes nothing.
use Rattle.std.proofs.Common.{rules}
use Rattle.stores.proofs.Storing.{copied_sixteen}
use Rattle.stores.proofs.bytes.copy_sixteen.Goals as goal

pub returns : goal.returns
returns c = copied_sixteen _ _ _ c.requires.0 c.row_at-first.ensures c.row_at-second.ensures c.store_row.ensures c.store_row-2.ensures
