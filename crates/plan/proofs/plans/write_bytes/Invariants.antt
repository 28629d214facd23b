-- `plan::plans::write_bytes` meets its contract. The loop's invariant: the reads counted, with those that are left, are the plan's, and what is left,
-- written on from here, makes the whole of it. Assumes nothing.
use Prim.Native.Nat.{◌+◌, ◌-◌, ◌*◌, ◌≤◌}
use mathlib.Core.Path.{◌≡◌}
use lib.ListN.{length}
use Rattle.questions.specs.Statements.{in_bytes}
use Rattle.reads.specs.Plan.{least_reads}
use Rattle.plan.specs.Replies.{row_at}
use Rattle.reads.proofs.Steps.{rest}
use Rattle.plan.proofs.Turns.{Left}
use Rattle.plan.proofs.plans.write_bytes.Given as goal

abbrev pub invariant-loop-cell : goal.invariant-loop-cell
invariant-loop-cell l = (l.cell ≤ l.cells) × (l.count + length (rest (row_at l.picture l.at l.cells) l.cell) ≡ least_reads (row_at l.picture l.at l.cells)) × (length l.out ≡ length l.initial.out) × Left in_bytes (row_at l.picture l.at l.cells) l.initial.out l.out (2 * l.count) l.cell

abbrev pub decreases-loop-cell : goal.decreases-loop-cell
decreases-loop-cell l = l.cells - l.cell
