-- `plan::cells::next_unknown` meets its contract. Assumes nothing.
use Rattle.std.proofs.Common.{◌≡◌, drop}
use Rattle.reads.specs.Plan.{next_unknown}
use Rattle.plan.specs.Replies.{row_at}
use Rattle.plan.proofs.cells.next_unknown.Given as goal

-- the next unknown cell from here on is the one asked for
abbrev pub invariant-loop-cell : goal.invariant-loop-cell
invariant-loop-cell l = next_unknown l.from (drop l.from (row_at l.picture l.at l.cells)) ≡ next_unknown l.cell (drop l.cell (row_at l.picture l.at l.cells))
