-- `plan::plans::write_bytes` meets its contract. The loop's invariant: the reads counted, with those that are left, are the plan's, and what is left,
-- written on from here, makes the whole of it. Assumes nothing.
use native.Mathlib.Omega.{arith}
use Prim.Native.Nat.{◌+◌}
use mathlib.Core.Path.{refl, ap, ◌∙◌}
use lib.ListN.{length}
use Rattle.questions.specs.Statements.{in_bytes}
use Rattle.plan.specs.Replies.{row_at}
use Rattle.reads.proofs.Steps.{rest_none, next_is}
use Rattle.plan.proofs.CellRow.{past_row}
use Rattle.plan.proofs.Turns.{few_reads, bytes_all}
use Rattle.plan.proofs.Passing.{count-begun, left_begun, left_same, same_rest, put-length, put_left, block_read, last_read}
use Rattle.plan.proofs.plans.write_bytes.Goals as goal

pub loop-cell-init : goal.loop-cell-init
loop-cell-init c =
    let a = c.args in
    (omega arith, count-begun (row_at a.picture.now a.at a.cells), refl, left_begun in_bytes (row_at a.picture.now a.at a.cells) a.out.now)

pub put_start-requires : goal.put_start-requires
put_start-requires c =
    let a = c.args in
    let read = block_read a.picture.now a.at a.cells c.loop-cell.cell (omega arith) c.number_at.ensures (omega arith) in
    (omega (arith, c.loop-cell.invariant.1, ap length read), omega arith)

pub overflow_add-count : goal.overflow_add-count
overflow_add-count c = let a = c.args in omega (arith, c.loop-cell.invariant.1, few_reads a.picture.now a.at a.cells)

pub loop-cell-smaller-then-number_at-eq-NOT_HEARD : goal.loop-cell-smaller-then-number_at-eq-NOT_HEARD
loop-cell-smaller-then-number_at-eq-NOT_HEARD c = omega arith

pub loop-cell-preserved-then-number_at-eq-NOT_HEARD : goal.loop-cell-preserved-then-number_at-eq-NOT_HEARD
loop-cell-preserved-then-number_at-eq-NOT_HEARD c =
    let a = c.args in
    let row = row_at a.picture.now a.at a.cells in
    let read = block_read a.picture.now a.at a.cells c.loop-cell.cell (omega arith) c.number_at.ensures (omega arith) in
    let put = c.put_start.ensures in
    (omega arith, omega (arith, c.loop-cell.invariant.1, ap length read), put-length row a.out.now c.loop-cell.out c.loop-cell.count c.loop-cell.cell put ∙ c.loop-cell.invariant.2, put_left row a.out.now c.loop-cell.out c.loop-cell.count c.loop-cell.cell put c.loop-cell.cell (c.loop-cell.cell + 4) read c.loop-cell.invariant.3)

pub past_known-cell-requires : goal.past_known-cell-requires
past_known-cell-requires c = (omega arith, omega arith, λ e. omega (arith, c.number_at.ensures))

pub loop-cell-smaller : goal.loop-cell-smaller
loop-cell-smaller c = omega arith

pub loop-cell-preserved : goal.loop-cell-preserved
loop-cell-preserved c =
    let a = c.args in
    let row = row_at a.picture.now a.at a.cells in
    let same = same_rest row _ _ c.past_known-cell.ensures.cells_value in
    (omega arith, omega (arith, c.loop-cell.invariant.1, ap length same), c.loop-cell.invariant.2, left_same in_bytes row _ _ _ _ _ same c.loop-cell.invariant.3)

pub put_start-requires-then-last-cells : goal.put_start-requires-then-last-cells
put_start-requires-then-last-cells c =
    let a = c.args in
    let next = c.next_unknown-last in
    let read = last_read a.picture.now a.at a.cells c.loop-cell.cell next.result c.loop-cell.invariant.0 (omega arith) next.ensures (omega arith) c.start_for.ensures in
    (omega (arith, c.loop-cell.invariant.1, ap length read.0), omega arith)

pub overflow_add-result : goal.overflow_add-result
overflow_add-result c = let a = c.args in omega (arith, c.loop-cell.invariant.1, few_reads a.picture.now a.at a.cells)

pub overflow_cast-result : goal.overflow_cast-result
overflow_cast-result c = let a = c.args in omega (arith, c.loop-cell.invariant.1, few_reads a.picture.now a.at a.cells)

pub shape_of-out-then-last-cells : goal.shape_of-out-then-last-cells
shape_of-out-then-last-cells c =
    let a = c.args in
    let start = c.start_for.result in
    put-length (row_at a.picture.now a.at a.cells) a.out.now c.loop-cell.out c.loop-cell.count start c.put_start-then-last-cells.ensures ∙ c.loop-cell.invariant.2

pub returns-then-last-cells : goal.returns-then-last-cells
returns-then-last-cells c =
    let a = c.args in
    let row = row_at a.picture.now a.at a.cells in
    let next = c.next_unknown-last in
    let start = c.start_for in
    let end = start.result + 4 in
    let read = last_read a.picture.now a.at a.cells c.loop-cell.cell next.result c.loop-cell.invariant.0 (omega arith) next.ensures (omega arith) start.ensures in record {
      value = omega (arith, c.loop-cell.invariant.1, ap length read.0, ap length (rest_none row end (past_row a.picture.now a.at a.cells end read.1)));
      out_after = bytes_all a.picture.now a.at a.cells a.out.now _ (c.loop-cell.count + 1) end read.1 (omega arith)
          (put_left row a.out.now c.loop-cell.out c.loop-cell.count start.result c.put_start-then-last-cells.ensures c.loop-cell.cell end read.0 c.loop-cell.invariant.3);
    }

pub overflow_cast-result-2 : goal.overflow_cast-result-2
overflow_cast-result-2 c = let a = c.args in omega (arith, c.loop-cell.invariant.1, few_reads a.picture.now a.at a.cells)

pub shape_of-out : goal.shape_of-out
shape_of-out c = c.loop-cell.invariant.2

pub returns : goal.returns
returns c =
    let a = c.args in
    let row = row_at a.picture.now a.at a.cells in
    let next = c.next_unknown-last in
    let same = (next_is row _ _ next.ensures).same in record { value = omega (arith, c.loop-cell.invariant.1, ap length same, ap length (rest_none row next.result (past_row a.picture.now a.at a.cells next.result (omega arith)))); out_after = bytes_all a.picture.now a.at a.cells a.out.now _ _ next.result (omega arith) (omega arith) (left_same in_bytes row _ _ _ _ _ same c.loop-cell.invariant.3) }
