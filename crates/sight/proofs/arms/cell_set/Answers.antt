-- `sight::arms::cell_set` meets its contract. Assumes nothing.
use Rattle.sight.proofs.Sight.{cell_set}
use borrow.Author.Tests.{not-false}
use Rattle.std.proofs.Common.{sym, ◌∙◌, rules}
use Rattle.sight.proofs.arms.cell_set.Goals as goal

pub returns : goal.returns
returns c =
    let a = c.args in
    let t = sym c.located.ensures ∙ c.if-not-located.false in
    cell_set a.bench.now a.address a.identifier c.requires.0 a.replies.now a.«data».now _ c.requires.1 t (rw (c.wide16.ensures, c.byte_at.ensures, c.byte_at-2.ensures) at c.set_cell.ensures)
