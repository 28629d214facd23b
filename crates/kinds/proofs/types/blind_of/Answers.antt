-- `kinds::types::blind_of` meets its contract.
-- Assumes nothing.
use Rattle.kinds.proofs.Listed.{other_line}
use Rattle.kinds.proofs.Positions.{position_none}
use Rattle.kinds.specs.Types.{line_of, blinds_of, position_in, blind_of}
use mathlib.Core.Path.{sym, ap}
use mathlib.Core.List.{[], ◌∷◌}
use Prim.Native.Nat.{suc}
use Rattle.kinds.proofs.types.blind_of.Goals as goal

pub returns-in-3-channel : goal.returns-in-3-channel
unfolding blind_of line_of position_in
returns-in-3-channel c = rw (c.in-3.is, c.in-3-channel.is)

pub returns-in_default-channel : goal.returns-in_default-channel
unfolding blind_of line_of
returns-in_default-channel c = rw c.in-3.is (ap suc (sym (position_none (0x03 ∷ []) c.args.channel c.in_default-channel.in_default-channel-own.rest)))

pub returns-in-10 : goal.returns-in-10
unfolding blind_of line_of position_in
returns-in-10 c = rw c.in-10.is

pub returns-in-3-channel-2 : goal.returns-in-3-channel-2
unfolding blind_of line_of position_in
returns-in-3-channel-2 c = rw (c.in-9.is, c.in-3-channel-2.is)

pub returns-in-12 : goal.returns-in-12
unfolding blind_of line_of position_in
returns-in-12 c = rw (c.in-9.is, c.in-12.is)

pub returns-in_default-channel-2 : goal.returns-in_default-channel-2
unfolding blind_of line_of
returns-in_default-channel-2 c = rw c.in-9.is (ap suc (sym (position_none (0x03 ∷ 0x0C ∷ []) c.args.channel c.in_default-channel-2.in_default-channel-2-own.rest)))

pub returns-in_default : goal.returns-in_default
unfolding blind_of position_in
returns-in_default c = rw (other_line c.args.kind c.in_default.in_default-own.rest, blinds_of)
