-- `plan::judges::gather` meets its contract. Assumes nothing.
use Rattle.std.proofs.Common.{◌≡◌, take}
use Rattle.plan.specs.Replies.{row_at}
use Rattle.plan.proofs.judges.gather.Given as goal

-- the first i starts stand
abbrev pub invariant-loop-i : goal.invariant-loop-i
invariant-loop-i l = take l.i l.starts ≡ row_at l.bytes 0 l.i
