-- `velbus::plans::velbus_plan` meets its contract. Assumes nothing.
use Rattle.velbus.proofs.plans.velbus_plan.Goals as goal

pub returns : goal.returns
returns c = record { value = rw (← c.plan_bytes.ensures.value) c.value_word.ensures; out_after = c.plan_bytes.ensures.out_after }
