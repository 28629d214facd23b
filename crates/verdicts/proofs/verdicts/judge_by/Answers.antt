use Rattle.verdicts.specs.Verdicts.{judged_if}
use Rattle.verdicts.proofs.verdicts.judge_by.Goals as goal

pub returns-in-Ok : goal.returns-in-Ok
unfolding judged_if
returns-in-Ok c = rw (c.in-Ok.is, c.settled.ensures)

pub returns-then-first_refusal : goal.returns-then-first_refusal
unfolding judged_if
returns-then-first_refusal c = rw (c.in-Err.is, ← c.first_refusal.ensures, c.if-first_refusal.true)

pub returns-else-first_refusal : goal.returns-else-first_refusal
unfolding judged_if
returns-else-first_refusal c = rw (c.in-Err.is, ← c.first_refusal.ensures, c.if-first_refusal.false, c.settled-else-first_refusal.ensures)
