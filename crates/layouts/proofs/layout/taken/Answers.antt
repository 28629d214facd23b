-- `layouts::layout::taken` meets its contract. Assumes nothing.
use Rattle.layouts.specs.Layout.{taken_parts}
use borrow.Author.Rules.{rules}
use Rattle.layouts.proofs.layout.taken.Goals as goal

pub returns : goal.returns
unfolding taken_parts
returns c = rw (c.number32.ensures, c.number16.ensures)
