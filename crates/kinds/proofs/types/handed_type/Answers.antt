-- `kinds::types::handed_type` meets its contract.
-- Assumes nothing.
use borrow.Author.Tests.{eq-eqb, ne_eqb}
use borrow.Author.Rules.{rules}
use Rattle.kinds.proofs.types.handed_type.Goals as goal

pub returns-then-kind-eq-NO_TYPE : goal.returns-then-kind-eq-NO_TYPE
returns-then-kind-eq-NO_TYPE c = rw (eq-eqb _ _ c.if-kind-eq-NO_TYPE.true)

pub returns-else-kind-eq-NO_TYPE : goal.returns-else-kind-eq-NO_TYPE
returns-else-kind-eq-NO_TYPE c = rw (ne_eqb _ _ c.if-kind-eq-NO_TYPE.false) c.module_type.ensures
