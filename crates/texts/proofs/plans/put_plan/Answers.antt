-- `texts::plans::put_plan` meets its contract. Assumes nothing.
use mathlib.Core.Path.{◌∙◌}
use Rattle.questions.proofs.Replying.{both_of, handed_on}
use Rattle.plan.proofs.Replying.{refused_before, found_says}
use Rattle.texts.proofs.plans.put_plan.Goals as goal

pub returns-in_err-slot : goal.returns-in_err-slot
returns-in_err-slot c =
    let both = both_of (refused_before _ _ _ _ c.module_asked.ensures.value c.in_err-slot.was) in
    record { value = rw (handed_on c.from_residual.result c.from_residual.ensures.1) both.0; out_after = both.1 }

pub returns : goal.returns
returns c =
    let both = both_of (found_says _ _ _ _ c.module_asked.ensures.value c.in_ok-slot.was) in
    record { value = c.put_plan_in.ensures.value ∙ both.0; out_after = c.put_plan_in.ensures.out_after ∙ both.1 }
