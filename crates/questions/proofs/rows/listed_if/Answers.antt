-- `questions::rows::listed_if` meets its contract. Assumes nothing.
use borrow.Author.Tests.{lt-ltb, le-ltb}
use Rattle.questions.proofs.rows.listed_if.Goals as goal

pub returns-then-slot_of-lt-ROOM : goal.returns-then-slot_of-lt-ROOM
returns-then-slot_of-lt-ROOM c = rw (← c.slot_of.ensures, lt-ltb _ _ c.if-slot_of-lt-ROOM.true)

pub returns-else-slot_of-lt-ROOM : goal.returns-else-slot_of-lt-ROOM
returns-else-slot_of-lt-ROOM c = rw (← c.slot_of.ensures, le-ltb _ _ c.if-slot_of-lt-ROOM.false)
