-- `kinds::bits::ones` meets its contract.
-- Assumes nothing.
use native.Mathlib.Omega.{arith}
use Rattle.kinds.proofs.Ones.{machine_ones}
use Rattle.kinds.proofs.bits.ones.Goals as goal

pub returns : goal.returns
returns c = machine_ones c.args.x (omega arith)
