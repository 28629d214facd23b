-- `shape::head::next_of` meets its contract. Assumes nothing.
use borrow.Author.Rules.{rules}
use Rattle.shape.specs.Head.{next_of}
use Rattle.shape.proofs.head.next_of.Goals as goal

pub returns : goal.returns
unfolding next_of
returns c = cc
