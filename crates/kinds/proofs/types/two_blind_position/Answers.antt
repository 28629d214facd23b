-- `kinds::types::two_blind_position` meets its contract.
-- Assumes nothing.
use Rattle.kinds.specs.Types.{two_blind_channels, position_in}
use Rattle.kinds.proofs.Positions.{position_none}
use mathlib.Core.Path.{sym}
use Rattle.kinds.proofs.types.two_blind_position.Goals as goal

pub returns-in-3 : goal.returns-in-3
unfolding position_in
returns-in-3 c = rw c.in-3.is

pub returns-in-12 : goal.returns-in-12
unfolding position_in
returns-in-12 c = rw c.in-12.is

pub returns-in-16 : goal.returns-in-16
unfolding position_in
returns-in-16 c = rw c.in-16.is

pub returns-in-32 : goal.returns-in-32
unfolding position_in
returns-in-32 c = rw c.in-32.is

pub returns-in-64 : goal.returns-in-64
unfolding position_in
returns-in-64 c = rw c.in-64.is

pub returns-in-128 : goal.returns-in-128
unfolding position_in
returns-in-128 c = rw c.in-128.is

pub returns-in_default : goal.returns-in_default
returns-in_default c = sym (position_none two_blind_channels c.args.channel c.in_default.in_default-own.rest)
