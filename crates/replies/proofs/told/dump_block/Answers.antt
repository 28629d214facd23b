-- `replies::told::dump_block` meets its contract. Assumes nothing.
use mathlib.Core.Path.{◌∙◌}
use borrow.Author.Rules.{rules}
use Rattle.replies.proofs.told.dump_block.Goals as goal

pub returns : goal.returns
returns c = c.block_told.ensures ∙ rw c.wide16.ensures
