-- `kinds::types::name_of` meets its contract.
-- Assumes nothing.
use Rattle.kinds.proofs.Listed.{other_line}
use native.Mathlib.Omega.{arith}
use native.Mathlib.Numerals.{add-one}
use Rattle.kinds.specs.Bits.{bits}
use Rattle.kinds.specs.Types.{name_of, line_of, channels_of, position_in, blind_channels, two_blind_channels}
use Rattle.kinds.proofs.Positions.{position_most}
use borrow.Author.Rules.{rules}
use Rattle.kinds.proofs.types.name_of.Goals as goal

pub overflow_add-result : goal.overflow_add-result
overflow_add-result c = omega (arith, c.blind_position.ensures, position_most blind_channels c.args.channel)

pub overflow_add-result-in-10 : goal.overflow_add-result-in-10
overflow_add-result-in-10 c = omega (arith, c.bit_position.ensures, position_most bits c.args.channel)

pub overflow_add-result-in-9 : goal.overflow_add-result-in-9
overflow_add-result-in-9 c = omega (arith, c.two_blind_position.ensures, position_most two_blind_channels c.args.channel)

pub returns-in-3 : goal.returns-in-3
unfolding name_of line_of
returns-in-3 c = rw (c.in-3.is, add-one, c.blind_position.ensures)

pub returns-in-10 : goal.returns-in-10
unfolding name_of line_of
returns-in-10 c = rw (c.in-10.is, add-one, c.bit_position.ensures)

pub returns-in-9 : goal.returns-in-9
unfolding name_of line_of
returns-in-9 c = rw (c.in-9.is, add-one, c.two_blind_position.ensures)

pub returns-in_default : goal.returns-in_default
unfolding name_of position_in
returns-in_default c = rw (other_line c.args.kind c.in_default.in_default-own.rest, channels_of)
