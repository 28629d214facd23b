-- `bench::sending::put_type` meets its contract. Assumes nothing.
use mathlib.Core.Path.{◌∙◌}
use borrow.Author.Rules.{rules}
use Rattle.bench.proofs.sending.put_type.Goals as goal

pub returns : goal.returns
returns c = c.put_one.ensures ∙ rw c.type_told-m.ensures
