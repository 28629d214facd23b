-- `plan::cells::least` meets its contract. The loop's invariant: the reads counted, with those that are left, are the plan's. Assumes nothing.
use native.Mathlib.Omega.{arith}
use Rattle.plan.proofs.CellRow.{row-length}
use Rattle.reads.proofs.Steps.{count-first}
use Rattle.plan.proofs.Turns.{few_reads, more_to_read, fewer_left, one_more_lem, all_read}
use Rattle.plan.proofs.cells.least.Goals as goal

pub loop-cell-init : goal.loop-cell-init
loop-cell-init c = count-first c.next_unknown-cell.ensures

pub overflow_add-count : goal.overflow_add-count
overflow_add-count c =
    let a = c.args in
    omega (arith, more_to_read (row-length _ _ _) c.loop-cell.invariant c.loop-cell-test.true, few_reads a.picture.now a.at a.cells)

pub loop-cell-smaller : goal.loop-cell-smaller
loop-cell-smaller c = fewer_left (row-length _ _ _) c.loop-cell.invariant c.loop-cell-test.true c.start_for-start.ensures c.next_unknown-cell-in-loop-cell.ensures

pub loop-cell-preserved : goal.loop-cell-preserved
loop-cell-preserved c = one_more_lem (row-length _ _ _) c.loop-cell.invariant c.loop-cell-test.true c.start_for-start.ensures c.next_unknown-cell-in-loop-cell.ensures

pub returns : goal.returns
returns c = all_read (row-length _ _ _) c.loop-cell.invariant c.loop-cell-test.false
