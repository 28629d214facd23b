-- `bench::deeds::set_glow` meets its contract. Assumes nothing.
use mathlib.Core.Path.{◌∙◌}
use borrow.Author.Rules.{rules}
use Rattle.bench.proofs.deeds.set_glow.Goals as goal

pub returns : goal.returns
returns c = c.set_some.ensures ∙ rw c.glow_number.ensures
