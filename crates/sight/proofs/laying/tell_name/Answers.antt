-- `sight::laying::tell_name` meets its contract. Assumes nothing.
use Rattle.sight.proofs.Laid.{name-told}
use Rattle.std.proofs.Common.{rules}
use Rattle.sight.proofs.laying.tell_name.Goals as goal

pub returns : goal.returns
returns c =
    let a = c.args in
    let n = c.name_cell-l.ensures in
    name-told a.bench.now a.buffer.now _ a.address _ _ a.n _ c.requires.0
    (rw n at c.lay_six.ensures) (rw n at c.lay_six-2.ensures) (rw n at c.lay_last.ensures)
