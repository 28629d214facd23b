-- `commands::forms::last_of` meets its contract. Assumes nothing.
use Rattle.std.proofs.Common.{sym, ◌∙◌, rules, eq-eqb, ne_eqb}
use Rattle.kinds.specs.Types.{vmb1bl}
use Rattle.commands.proofs.Rows.{last_cell_lem}
use Rattle.commands.proofs.forms.last_of.Goals as goal

pub returns-then-wide32-eq-VMB1BL : goal.returns-then-wide32-eq-VMB1BL
returns-then-wide32-eq-VMB1BL c = rw (eq-eqb c.args.kind vmb1bl (sym c.wide32.ensures ∙ c.if-wide32-eq-VMB1BL.true)) at (last_cell_lem c.args.kind c.requires)

pub returns-else-wide32-eq-VMB1BL : goal.returns-else-wide32-eq-VMB1BL
returns-else-wide32-eq-VMB1BL c = rw (ne_eqb c.args.kind vmb1bl (λ e. c.if-wide32-eq-VMB1BL.false (c.wide32.ensures ∙ e))) at (last_cell_lem c.args.kind c.requires)
