-- `questions::names::name_at` meets its contract. Assumes nothing.
use native.Mathlib.Omega.{arith}
use mathlib.Core.Path.{sym, ◌∙◌}
use Rattle.places.proofs.Fitting.{first_small}
use Rattle.questions.proofs.Extents.{few_names}
use Rattle.questions.proofs.names.name_at.Goals as goal

pub overflow_cast-name : goal.overflow_cast-name
overflow_cast-name c = omega (arith, few_names c.kind_in-kind.result c.args.name (sym c.has_name.ensures ∙ c.if-has_name.true))

pub returns-then-has_name-clause-inside : goal.returns-then-has_name-clause-inside
returns-then-has_name-clause-inside c =
    let kind = c.kind_in-kind.result in
    let start = rw c.character_place.ensures at c.place_at.ensures in
    omega (arith, start, few_names kind c.args.name (sym c.has_name.ensures ∙ c.if-has_name.true), first_small kind)
