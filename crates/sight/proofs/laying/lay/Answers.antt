-- `sight::laying::lay` meets its contract. Assumes nothing.
use Rattle.sight.proofs.Laid.{stored_twelve}
use Rattle.std.proofs.Common.{rules}
use Rattle.sight.proofs.laying.lay.Goals as goal

pub returns : goal.returns
returns c =
    let a = c.args in
    let w = c.wide32.ensures in
    stored_twelve a.buffer.now c.put_four.new.s c.put_four-2.new.s c.put_four-3.new.s a.at _ _ _ _ _ _ _ _ _ _ _ _
    (rw w at c.put_four.ensures) c.put_four-2.ensures c.put_four-3.ensures
