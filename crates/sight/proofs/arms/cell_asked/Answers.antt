-- `sight::arms::cell_asked` meets its contract. Assumes nothing.
use Rattle.sight.specs.Arms.{located}
use Rattle.sight.proofs.Sight.{cell-asked, both_held}
use borrow.Author.Tests.{not-false}
use Rattle.std.proofs.Common.{sym, ◌∙◌, rules}
use Rattle.sight.proofs.arms.cell_asked.Goals as goal

pub tell_cell-requires : goal.tell_cell-requires
tell_cell-requires c =
    let a = c.args in
    let t = sym (rw c.located.ensures at c.both.ensures) ∙ c.if-not-both.false in
    (both_held (located 3 255 a.«data».now) 12 a.replies.now t).1

pub returns : goal.returns
returns c =
    let a = c.args in
    let t = sym (rw c.located.ensures at c.both.ensures) ∙ c.if-not-both.false in
    cell-asked a.bench.now a.address a.identifier c.requires.0 a.replies.now a.«data».now _ c.requires.1 t (rw c.byte_at.ensures at c.tell_cell.ensures)
