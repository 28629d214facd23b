-- `places::places::numbered` meets its contract. Assumes nothing.
use native.Mathlib.Omega.{arith}
use mathlib.Core.Path.{sym, ◌∙◌}
use Rattle.places.proofs.CodePlaces.{within_low, within-high}
use Rattle.places.proofs.places.numbered.Goals as goal

pub overflow_sub-result : goal.overflow_sub-result
overflow_sub-result c = omega (arith, within_low c.args.n c.args.most (sym c.within.ensures ∙ c.if-within.true))

pub overflow_add-result : goal.overflow_add-result
overflow_add-result c = omega (arith, within-high c.args.n c.args.most (sym c.within.ensures ∙ c.if-within.true))

pub returns-then-within-clause-value : goal.returns-then-within-clause-value
returns-then-within-clause-value c = rw (sym c.within.ensures ∙ c.if-within.true)

pub returns-then-within-clause-inside : goal.returns-then-within-clause-inside
returns-then-within-clause-inside c =
    omega (arith, within_low c.args.n c.args.most (sym c.within.ensures ∙ c.if-within.true), within-high c.args.n c.args.most (sym c.within.ensures ∙ c.if-within.true))

pub returns-else-within-clause-value : goal.returns-else-within-clause-value
returns-else-within-clause-value c = rw (sym c.within.ensures ∙ c.if-within.false)
