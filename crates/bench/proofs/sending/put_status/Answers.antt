-- `bench::sending::put_status` meets its contract. Assumes nothing.
use mathlib.Core.Path.{◌∙◌}
use borrow.Author.Rules.{rules}
use Rattle.bench.proofs.sending.put_status.Goals as goal

pub returns : goal.returns
returns c = c.put_one.ensures ∙ rw c.status_told-m.ensures
