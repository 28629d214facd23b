-- `plan::plans::write_entries` meets its contract. The loop's invariant: the reads counted, with those that are left, are the plan's, and what is left,
-- written on from here, makes the whole of it. Assumes nothing.
use native.Mathlib.Omega.{arith}
use mathlib.Core.Path.{refl}
use lib.ListN.{length-set}
use Rattle.plan.specs.Replies.{row_at}
use Rattle.plan.proofs.CellRow.{row-length}
use Rattle.reads.proofs.Steps.{count-first}
use Rattle.plan.proofs.Turns.{few_reads, more_to_read, fewer_left, one_more_lem, all_read, left_of, all_left, entry_more, entries_all}
use Rattle.plan.proofs.plans.write_entries.Goals as goal

pub loop-cell-init : goal.loop-cell-init
loop-cell-init c =
    let a = c.args in
    (count-first c.next_unknown-cell.ensures, refl, all_left (λ l. l) (row_at a.picture.now a.at a.cells) a.starts.now _ c.next_unknown-cell.ensures)

pub offset_bounds-starts-count : goal.offset_bounds-starts-count
offset_bounds-starts-count c = omega (arith, more_to_read (row-length _ _ _) c.loop-cell.invariant.0 c.loop-cell-test.true, c.requires)

pub bounds-starts-count : goal.bounds-starts-count
bounds-starts-count c = omega (arith, more_to_read (row-length _ _ _) c.loop-cell.invariant.0 c.loop-cell-test.true, c.requires)

pub overflow_add-count : goal.overflow_add-count
overflow_add-count c = omega (arith, more_to_read (row-length _ _ _) c.loop-cell.invariant.0 c.loop-cell-test.true, c.requires)

pub loop-cell-smaller : goal.loop-cell-smaller
loop-cell-smaller c = fewer_left (row-length _ _ _) c.loop-cell.invariant.0 c.loop-cell-test.true c.start_for-start.ensures c.next_unknown-cell-in-loop-cell.ensures

pub loop-cell-preserved : goal.loop-cell-preserved
loop-cell-preserved c =
    let h = c.loop-cell-test.true in
    let p = c.start_for-start.ensures in
    let q = c.next_unknown-cell-in-loop-cell.ensures in
    (one_more_lem (row-length _ _ _) c.loop-cell.invariant.0 h p q, simp length-set c.loop-cell.invariant.1, entry_more _ _ _ _ _ _ _ (left_of (row-length _ _ _) c.loop-cell.invariant.0 h p q) c.loop-cell.invariant.2)

pub overflow_cast-result : goal.overflow_cast-result
overflow_cast-result c =
    let a = c.args in
    omega (arith, all_read (row-length _ _ _) c.loop-cell.invariant.0 c.loop-cell-test.false, few_reads a.picture.now a.at a.cells)

pub shape_of-starts : goal.shape_of-starts
shape_of-starts c = c.loop-cell.invariant.1

pub returns : goal.returns
returns c =
    let a = c.args in
    record { value = all_read (row-length _ _ _) c.loop-cell.invariant.0 c.loop-cell-test.false; starts_after = entries_all a.picture.now a.at a.cells a.starts.now _ _ _ c.loop-cell-test.false (omega arith) c.loop-cell.invariant.2 }
