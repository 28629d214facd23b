-- `fields::fields::asked_allowed` meets its contract.
-- Assumes nothing.
use native.Mathlib.Omega.{arith}
use Rattle.kinds.specs.Types.{extent_of}
use Rattle.fields.specs.Fields.{buttons_allowed, asked_allowed}
use Rattle.fields.proofs.Unions.{union_tested}
use borrow.Author.Tests.{eq-eqb, ne_eqb}
use Rattle.fields.proofs.fields.asked_allowed.Goals as goal

pub returns-then-e-eq0 : goal.returns-then-e-eq0
unfolding extent_of asked_allowed
returns-then-e-eq0 c = rw (eq-eqb _ 0 (rw c.extent_of-e.ensures at c.if-e-eq0.true), c.channel_allowed.ensures)

pub returns : goal.returns
unfolding extent_of buttons_allowed asked_allowed
returns c =
    let a = c.args in
    let some = rw c.extent_of-e.ensures at c.if-e-eq0.false in
    rw (ne_eqb _ 0 some, ← union_tested a.kind a.x some (omega arith), c.both-2.ensures, c.both.ensures, c.buttons_allowed.ensures, c.both-whole.ensures, c.both_or_none-2.ensures, c.both_or_none.ensures)
