-- `places::places::has_cell` meets its contract. Assumes nothing.
use mathlib.Core.Path.{◌≡◌, sym, ◌∙◌}
use native.Mathlib.Omega.{arith}
use borrow.Author.Tests.{le-ltb}
use Rattle.kinds.specs.Types.{extent_of, line_of, no_line}
use Rattle.kinds.proofs.Listed.{other_line}
use Rattle.places.proofs.places.has_cell.Goals as goal

pub returns-then-number-eq-VMB1BL : goal.returns-then-number-eq-VMB1BL
unfolding extent_of line_of
returns-then-number-eq-VMB1BL c = rw (sym c.wide32-number.ensures ∙ c.if-number-eq-VMB1BL.true)

pub returns-then-number-eq-VMB2BL : goal.returns-then-number-eq-VMB2BL
unfolding extent_of line_of
returns-then-number-eq-VMB2BL c = rw (sym c.wide32-number.ensures ∙ c.if-number-eq-VMB2BL.true)

pub returns-then-number-eq-VMB8IR : goal.returns-then-number-eq-VMB8IR
unfolding extent_of line_of
returns-then-number-eq-VMB8IR c = rw (sym c.wide32-number.ensures ∙ c.if-number-eq-VMB8IR.true)

pub returns : goal.returns
unfolding extent_of
returns c =
    let a = c.args in
    let same = c.wide32-number.ensures in
    let none : line_of a.kind ≡ no_line = other_line a.kind (((tt, λ e. omega (arith, same)), λ e. omega (arith, same)), λ e. omega (arith, same)) in
    rw none (sym (le-ltb a.location 0 (omega arith)))
