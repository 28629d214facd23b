-- `sight::laying::tell_cell` meets its contract. Assumes nothing.
use Rattle.std.proofs.Common.{arith, rules}
use Rattle.sight.proofs.Laid.{cell_told}
use Rattle.sight.proofs.laying.tell_cell.Goals as goal

pub returns : goal.returns
returns c =
    let a = c.args in
    cell_told a.bench.now a.buffer.now c.lay.new.buffer a.address a.l c.byte_at-v.result (omega (arith, c.ranges.l)) c.byte_at-v.ensures c.lay.ensures
