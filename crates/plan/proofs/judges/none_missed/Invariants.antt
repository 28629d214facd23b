-- `plan::judges::none_missed` meets its contract. Assumes nothing.
use Rattle.std.proofs.Common.{◌≡◌, drop}
use Rattle.reads.specs.Judging.{none_missed}
use Rattle.plan.specs.Replies.{row_at}
use Rattle.plan.proofs.judges.none_missed.Given as goal

-- none is missed exactly if none is from here on
abbrev pub invariant-loop-cell : goal.invariant-loop-cell
invariant-loop-cell l = none_missed l.starts 0 (row_at l.picture l.at l.cells) ≡ none_missed l.starts l.cell (drop l.cell (row_at l.picture l.at l.cells))
