-- `plan::cells::least` meets its contract. The loop's invariant: the reads counted, with those that are left, are the plan's. Assumes nothing.
use lib.ListN.{length}
use Rattle.plan.specs.Replies.{row_at}
use Rattle.reads.proofs.Steps.{rest, Counted}
use Rattle.plan.proofs.cells.least.Given as goal

abbrev pub invariant-loop-cell : goal.invariant-loop-cell
invariant-loop-cell l = Counted (row_at l.picture l.at l.cells) l.count l.cell

abbrev pub decreases-loop-cell : goal.decreases-loop-cell
decreases-loop-cell l = length (rest (row_at l.picture l.at l.cells) l.cell)
