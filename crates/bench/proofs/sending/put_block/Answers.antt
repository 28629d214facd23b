-- `bench::sending::put_block` meets its contract. Assumes nothing.
use mathlib.Core.Path.{◌∙◌}
use borrow.Author.Rules.{rules}
use Rattle.bench.proofs.sending.put_block.Goals as goal

pub returns : goal.returns
returns c = c.put_one.ensures ∙ rw c.block_told-m.ensures
