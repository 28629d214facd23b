-- `shape::head::depth_of` meets its contract. Assumes nothing.
use borrow.Author.Rules.{rules}
use Rattle.shape.specs.Head.{depth_of}
use Rattle.shape.proofs.head.depth_of.Goals as goal

pub returns : goal.returns
unfolding depth_of
returns c = search rules
