-- `plan::plans::write_entries` meets its contract. The loop's invariant: the reads counted, with those that are left, are the plan's, and what is left,
-- written on from here, makes the whole of it. Assumes nothing.
use mathlib.Core.Path.{◌≡◌}
use lib.ListN.{length}
use Rattle.plan.specs.Replies.{row_at}
use Rattle.reads.proofs.Steps.{rest, Counted}
use Rattle.plan.proofs.Turns.{Left}
use Rattle.plan.proofs.plans.write_entries.Given as goal

abbrev pub invariant-loop-cell : goal.invariant-loop-cell
invariant-loop-cell l = Counted (row_at l.picture l.at l.cells) l.count l.cell × (length l.starts ≡ length l.initial.starts) × Left (λ l. l) (row_at l.picture l.at l.cells) l.initial.starts l.starts l.count l.cell

abbrev pub decreases-loop-cell : goal.decreases-loop-cell
decreases-loop-cell l = length (rest (row_at l.picture l.at l.cells) l.cell)
