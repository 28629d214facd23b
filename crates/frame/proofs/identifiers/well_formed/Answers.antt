-- `frame::identifiers::well_formed` meets its contract.
-- Assumes nothing.
use borrow.Author.Tests.{ne_eqb}
use mathlib.Core.Path.{◌≡◌, refl, sym}
use mathlib.Core.Bool.{Bool, true, false, ◌||◌}
use borrow.Author.Rules.{rules}
use Rattle.frame.proofs.identifiers.well_formed.Goals as goal

or-false : (b : Bool) → b || false ≡ b
or-false true = refl
or-false false = refl

pub returns-in-0 : goal.returns-in-0
returns-in-0 c = rw c.in-0.is c.both.ensures

pub returns-in-1 : goal.returns-in-1
returns-in-1 c = rw c.in-1.is (sym (or-false _))

pub returns-in_default : goal.returns-in_default
returns-in_default c = simp (ne_eqb _ _ c.in_default.in_default-own.rest.0.1, ne_eqb _ _ c.in_default.in_default-own.rest.1)
