-- `stores::bytes::row_at` meets its contract. Assumes nothing.
use Rattle.std.proofs.Common.{add-zero, rules}
use Rattle.laws.specs.Tab.{tab}
use Rattle.stores.proofs.bytes.row_at.Goals as goal

pub returns : goal.returns
unfolding tab
returns c = simp add-zero
