-- `bench::sending::put_cell` meets its contract. Assumes nothing.
use mathlib.Core.Path.{◌∙◌}
use borrow.Author.Rules.{rules}
use Rattle.bench.proofs.sending.put_cell.Goals as goal

pub returns : goal.returns
returns c = c.put_one.ensures ∙ rw c.cell_at-v.ensures
