-- `bench::sending::put_name` meets its contract. Assumes nothing.
use mathlib.Core.Path.{◌∙◌}
use borrow.Author.Rules.{rules}
use Rattle.bench.proofs.sending.put_name.Goals as goal

pub returns : goal.returns
returns c = c.put_three.ensures ∙ rw (c.name_three-z.ensures, c.name_two-y.ensures, c.name_one-x.ensures, c.name_cell-l.ensures)
