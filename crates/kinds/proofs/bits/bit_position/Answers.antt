-- `kinds::bits::bit_position` meets its contract.
-- Assumes nothing.
use mathlib.Core.Path.{sym, ◌∙◌}
use lib.Count.{trailing_le}
use native.Mathlib.Omega.{arith}
use Rattle.kinds.specs.Types.{position_in}
use Rattle.kinds.proofs.Ones.{position_ones, position_other}
use borrow.Author.Rules.{rules}
use Rattle.kinds.proofs.bits.bit_position.Goals as goal

pub returns-then-x-eq0 : goal.returns-then-x-eq0
unfolding position_in
returns-then-x-eq0 c = rw c.if-x-eq0.true

pub overflow_cast-result : goal.overflow_cast-result
overflow_cast-result c = omega (arith, trailing_le 8 c.args.x)

pub returns-then-one_bit : goal.returns-then-one_bit
returns-then-one_bit c = position_ones c.args.x (omega arith) (sym c.one_bit.ensures ∙ c.if-one_bit.true)

pub returns-else-one_bit : goal.returns-else-one_bit
returns-else-one_bit c = position_other c.args.x (omega arith) (sym c.one_bit.ensures ∙ c.if-one_bit.false)
