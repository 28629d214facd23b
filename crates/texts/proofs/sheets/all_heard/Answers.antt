-- `texts::sheets::all_heard` meets its contract. Assumes nothing.
use borrow.Author.Tests.{eq-eqb, ne_eqb}
use Rattle.texts.proofs.sheets.all_heard.Goals as goal

pub returns-then-count-eq-NAME_LENGTH : goal.returns-then-count-eq-NAME_LENGTH
returns-then-count-eq-NAME_LENGTH c = rw (eq-eqb _ _ c.if-count-eq-NAME_LENGTH.true)

pub returns-else-count-eq-NAME_LENGTH : goal.returns-else-count-eq-NAME_LENGTH
returns-else-count-eq-NAME_LENGTH c = rw (ne_eqb _ _ c.if-count-eq-NAME_LENGTH.false)
