-- `plan::judges::right_plan_bytes` meets its contract. Assumes nothing.
use mathlib.Core.Path.{ap, ◌∙◌}
use mathlib.Core.Bool.{Bool}
use Rattle.std.specs.Prelude.{Ok}
use Rattle.questions.proofs.Replying.{both_of, handed_on}
use Rattle.plan.specs.Replies.{judged}
use Rattle.plan.proofs.Replying.{refused_before, found_says, judged_says}
use Rattle.plan.proofs.judges.right_plan_bytes.Goals as goal

pub returns-in_err-slot : goal.returns-in_err-slot
returns-in_err-slot c = rw (handed_on c.from_residual.result c.from_residual.ensures.1) (both_of (refused_before _ _ _ _ c.module_asked.ensures.value c.in_err-slot.was)).0

pub returns : goal.returns
returns c = ap (λ (t : Bool). judged (Ok t)) c.right_bytes_in.ensures ∙ judged_says _ ∙ (both_of (found_says _ _ _ _ c.module_asked.ensures.value c.in_ok-slot.was)).0
