-- `plan::cells::next_unknown` meets its contract. Assumes nothing.
use Rattle.std.proofs.Common.{◌≡◌, ◌≤◌, drop, sym, ◌∙◌, arith}
use Rattle.reads.specs.Plan.{next_unknown}
use Rattle.plan.specs.Replies.{row_at}
use Rattle.plan.proofs.CellRow.{found_here, none_here, none_left}
use Rattle.plan.proofs.cells.next_unknown.Goals as goal

pub returns-then-number_at-eq-NOT_HEARD : goal.returns-then-number_at-eq-NOT_HEARD
returns-then-number_at-eq-NOT_HEARD c =
    let a = c.args in
    sym (c.loop-cell.invariant ∙ found_here a.picture.now a.at a.cells c.loop-cell.cell c.number_at.result c.loop-cell-test.true c.number_at.ensures (omega arith))

pub loop-cell-preserved : goal.loop-cell-preserved
loop-cell-preserved c =
    let a = c.args in
    c.loop-cell.invariant ∙ none_here a.picture.now a.at a.cells c.loop-cell.cell c.number_at.result c.loop-cell-test.true c.number_at.ensures (λ e. omega arith)

pub returns : goal.returns
returns c =
    let a = c.args in
    let last : next_unknown c.loop-cell.cell (drop c.loop-cell.cell (row_at a.picture.now a.at a.cells)) ≡ c.loop-cell.cell = none_left a.picture.now a.at a.cells c.loop-cell.cell c.loop-cell-test.false in
    let beyond : a.cells ≤ a.from → next_unknown a.from (drop a.from (row_at a.picture.now a.at a.cells)) ≡ a.from = none_left a.picture.now a.at a.cells a.from in
    grind (arith, c.loop-cell.auto.cell-end, c.loop-cell.invariant, last, beyond)
