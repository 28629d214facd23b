-- `shape::head::modules_of` meets its contract. Assumes nothing.
use borrow.Author.Rules.{rules}
use Rattle.shape.specs.Head.{modules_of}
use Rattle.shape.proofs.head.modules_of.Goals as goal

pub returns-then-n-lt-ROOM : goal.returns-then-n-lt-ROOM
unfolding modules_of
returns-then-n-lt-ROOM c = search rules

pub returns-else-n-lt-ROOM : goal.returns-else-n-lt-ROOM
unfolding modules_of
returns-else-n-lt-ROOM c = search rules
