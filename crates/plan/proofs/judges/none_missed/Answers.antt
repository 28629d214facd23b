-- `plan::judges::none_missed` meets its contract. Assumes nothing.
use mathlib.Core.Path.{sym, ◌∙◌}
use Rattle.plan.specs.Replies.{row_at}
use Rattle.reads.proofs.Judging.{none_end, none_stop, none_on}
use Rattle.plan.proofs.CellRow.{in_row, past_row, judged-cell}
use Rattle.plan.proofs.judges.none_missed.Goals as goal

pub returns-then-is_missed : goal.returns-then-is_missed
returns-then-is_missed c =
    let a = c.args in
    let h = c.loop-cell-test.true in
    let d = judged-cell a.picture.now a.at a.cells c.loop-cell.cell h a.starts.now c.number_at.ensures c.is_missed.ensures in
    sym (c.loop-cell.invariant ∙ none_stop a.starts.now (row_at a.picture.now a.at a.cells) c.loop-cell.cell (in_row a.picture.now a.at a.cells c.loop-cell.cell h) d c.if-is_missed.true)

pub loop-cell-preserved : goal.loop-cell-preserved
loop-cell-preserved c =
    let a = c.args in
    let h = c.loop-cell-test.true in
    let d = judged-cell a.picture.now a.at a.cells c.loop-cell.cell h a.starts.now c.number_at.ensures c.is_missed.ensures in
    c.loop-cell.invariant ∙ none_on a.starts.now (row_at a.picture.now a.at a.cells) c.loop-cell.cell (in_row a.picture.now a.at a.cells c.loop-cell.cell h) d c.if-is_missed.false

pub returns : goal.returns
returns c =
    let a = c.args in
    sym (c.loop-cell.invariant ∙ none_end a.starts.now (row_at a.picture.now a.at a.cells) c.loop-cell.cell (past_row a.picture.now a.at a.cells c.loop-cell.cell c.loop-cell-test.false))
