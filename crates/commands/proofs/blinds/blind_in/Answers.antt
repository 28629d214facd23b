-- `commands::blinds::blind_in` meets its contract. Assumes nothing.
use Rattle.std.proofs.Common.{sym, ◌∙◌, rules, eq-eqb, ne_eqb}
use Rattle.kinds.specs.Types.{vmb2bl}
use Rattle.commands.proofs.Statuses.{first-blind, other_blind}
use Rattle.commands.proofs.blinds.blind_in.Goals as goal

pub returns-then-channel-eq3 : goal.returns-then-channel-eq3
returns-then-channel-eq3 c = rw c.if-channel-eq3.true (sym (first-blind c.args.kind c.requires.0 c.requires.1))

pub returns-then-wide32-eq-VMB2BL : goal.returns-then-wide32-eq-VMB2BL
returns-then-wide32-eq-VMB2BL c = rw (other_blind c.args.kind c.requires.0 c.requires.1 c.args.channel c.if-channel-eq3.false, c.if-channel-eq12.true, eq-eqb c.args.kind vmb2bl (sym c.wide32.ensures ∙ c.if-wide32-eq-VMB2BL.true))

pub returns-else-wide32-eq-VMB2BL : goal.returns-else-wide32-eq-VMB2BL
returns-else-wide32-eq-VMB2BL c = rw (other_blind c.args.kind c.requires.0 c.requires.1 c.args.channel c.if-channel-eq3.false, c.if-channel-eq12.true, ne_eqb c.args.kind vmb2bl (λ e. c.if-wide32-eq-VMB2BL.false (c.wide32.ensures ∙ e)))

pub returns-else-channel-eq12 : goal.returns-else-channel-eq12
returns-else-channel-eq12 c = rw (other_blind c.args.kind c.requires.0 c.requires.1 c.args.channel c.if-channel-eq3.false, ne_eqb c.args.channel 0x0C c.if-channel-eq12.false)
