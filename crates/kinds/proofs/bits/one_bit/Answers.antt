-- `kinds::bits::one_bit` meets its contract.
-- Assumes nothing.
use native.Mathlib.Omega.{arith}
use Rattle.kinds.proofs.Ones.{one-bit-ones}
use borrow.Author.Rules.{rules}
use Rattle.kinds.proofs.bits.one_bit.Goals as goal

pub returns : goal.returns
returns c = rw (c.ones.ensures, one-bit-ones c.args.x (omega arith))
