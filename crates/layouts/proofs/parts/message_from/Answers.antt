-- `layouts::parts::message_from` meets its contract. Assumes nothing.
use Rattle.layouts.specs.Parts.{message_from}
use borrow.Author.Tests.{eq-eqb, ne_eqb}
use borrow.Author.Rules.{rules}
use Rattle.layouts.proofs.parts.message_from.Goals as goal

pub returns-then-p-eq0 : goal.returns-then-p-eq0
unfolding message_from
returns-then-p-eq0 c = rw (eq-eqb _ _ c.if-p-eq0.true)

pub returns-else-p-eq0 : goal.returns-else-p-eq0
unfolding message_from
returns-else-p-eq0 c = rw (ne_eqb _ _ c.if-p-eq0.false, c.command_from.ensures)
