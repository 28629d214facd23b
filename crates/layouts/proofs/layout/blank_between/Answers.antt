-- `layouts::layout::blank_between` meets its contract. Assumes nothing.
use Rattle.layouts.specs.Layout.{blank_between}
use borrow.Author.Rules.{rules}
use Rattle.layouts.proofs.layout.blank_between.Goals as goal

pub returns : goal.returns
unfolding blank_between
returns c = rw (c.both-2.ensures, c.both.ensures)
