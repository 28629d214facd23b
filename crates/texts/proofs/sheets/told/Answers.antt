-- `texts::sheets::told` meets its contract. Assumes nothing.
use native.Mathlib.Omega.{arith}
use borrow.Author.Tests.{eq-eqb, ne_eqb}
use borrow.Author.Rules.{rules}
use Rattle.texts.proofs.sheets.told.Goals as goal

pub returns-then-number-eq-NOT_HEARD : goal.returns-then-number-eq-NOT_HEARD
returns-then-number-eq-NOT_HEARD c = (rw (eq-eqb _ _ c.if-number-eq-NOT_HEARD.true), omega arith)

pub returns-else-number-eq-NOT_HEARD : goal.returns-else-number-eq-NOT_HEARD
returns-else-number-eq-NOT_HEARD c = (rw (ne_eqb _ _ c.if-number-eq-NOT_HEARD.false), omega arith)
