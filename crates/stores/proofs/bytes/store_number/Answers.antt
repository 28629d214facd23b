-- `stores::bytes::store_number` meets its contract. Assumes nothing.
use Rattle.std.proofs.Common.{arith, length-set, rules}
use Rattle.stores.proofs.Storing.{stored_four}
use Rattle.stores.proofs.bytes.store_number.Goals as goal

pub bounds-s-at-2 : goal.bounds-s-at-2
bounds-s-at-2 c = simp length-set (omega arith)

pub bounds-s-at-3 : goal.bounds-s-at-3
bounds-s-at-3 c = simp length-set (omega arith)

pub bounds-s-at-4 : goal.bounds-s-at-4
bounds-s-at-4 c = simp length-set (omega arith)

pub returns : goal.returns
returns c = stored_four _ _ _ _ _ _
