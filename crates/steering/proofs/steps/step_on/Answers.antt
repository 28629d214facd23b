-- `steering::steps::step_on` meets its contract. Assumes nothing.
use Rattle.std.proofs.Common.{rules}
use Rattle.steering.specs.Steps.{stepped}
use Rattle.steering.proofs.steps.step_on.Goals as goal

pub returns : goal.returns
unfolding stepped
returns c = rw (← c.byte_at-next.ensures, ← c.keep_more.ensures, ← c.wrapping_add_u8.ensures.value) c.put_at.ensures
