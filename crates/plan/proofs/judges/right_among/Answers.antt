-- `plan::judges::right_among` meets its contract. Assumes nothing.
use Rattle.plan.specs.Replies.{row_at}
use Rattle.plan.proofs.CellRow.{legal_row}
use Rattle.reads.proofs.Judging.{wrong_count, wrong_start, right_by}
use Rattle.plan.proofs.judges.right_among.Goals as goal

pub returns-then-starts-least : goal.returns-then-starts-least
returns-then-starts-least c =
    let a = c.args in
    wrong_count (row_at a.picture.now a.at a.cells) a.starts.now c.least.ensures c.if-starts-least.true

pub returns-then-all_legal : goal.returns-then-all_legal
returns-then-all_legal c =
    let a = c.args in
    right_by (row_at a.picture.now a.at a.cells) a.starts.now c.least.ensures c.if-starts-least.false
    (legal_row a.picture.now a.at a.cells a.starts.now c.all_legal.ensures) c.if-all_legal.true c.none_missed.ensures

pub returns : goal.returns
returns c =
    let a = c.args in
    wrong_start (row_at a.picture.now a.at a.cells) a.starts.now (legal_row a.picture.now a.at a.cells a.starts.now c.all_legal.ensures) c.if-all_legal.false
