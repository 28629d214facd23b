-- `changes::leds::lanes` meets its contract. Assumes nothing.
use Rattle.std.proofs.Common.{arith, rules}
use Rattle.changes.proofs.Lanes.{lane_bits}
use Rattle.changes.proofs.leds.lanes.Goals as goal

pub overflow_shr-result : goal.overflow_shr-result
overflow_shr-result c = omega (arith, c.requires)

pub returns : goal.returns
returns c = lane_bits c.args.x (omega arith) c.args.from (omega (arith, c.requires))
