-- `shape::head::kept_of` meets its contract. Assumes nothing.
use borrow.Author.Rules.{rules}
use Rattle.shape.specs.Head.{kept_of}
use Rattle.shape.proofs.head.kept_of.Goals as goal

pub returns : goal.returns
unfolding kept_of
returns c = search rules
