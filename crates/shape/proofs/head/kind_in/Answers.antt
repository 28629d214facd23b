-- `shape::head::kind_in` meets its contract. Assumes nothing.
use borrow.Author.Tests.{lt-ltb, le-ltb}
use borrow.Author.Rules.{rules}
use Rattle.shape.specs.Head.{kind_in}
use Rattle.shape.proofs.head.kind_in.Goals as goal

pub returns-then-slot-lt-ROOM : goal.returns-then-slot-lt-ROOM
unfolding kind_in
returns-then-slot-lt-ROOM c = rw (lt-ltb _ _ c.if-slot-lt-ROOM.true) (cc)

pub returns-else-slot-lt-ROOM : goal.returns-else-slot-lt-ROOM
unfolding kind_in
returns-else-slot-lt-ROOM c = rw (le-ltb _ _ c.if-slot-lt-ROOM.false)
