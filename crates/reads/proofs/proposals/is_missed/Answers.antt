-- `reads::proposals::is_missed` meets its contract. Assumes nothing.
use Rattle.std.proofs.Common.{arith}
use Rattle.std.proofs.lemmas.Grind.{common_steps}
use Rattle.reads.specs.Judging.{missed}
use Rattle.reads.proofs.proposals.is_missed.Goals as goal

pub returns-then-value-eq-NOT_HEARD : goal.returns-then-value-eq-NOT_HEARD
unfolding missed
returns-then-value-eq-NOT_HEARD c = grind (arith, common_steps)

pub returns-else-value-eq-NOT_HEARD : goal.returns-else-value-eq-NOT_HEARD
unfolding missed
returns-else-value-eq-NOT_HEARD c = grind (arith, common_steps)
