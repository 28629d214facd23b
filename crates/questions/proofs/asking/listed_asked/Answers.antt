-- `questions::asking::listed_asked` meets its contract. Assumes nothing.
use borrow.Author.Tests.{lt-ltb, le-ltb}
use Rattle.questions.specs.Replies.{slot_asked}
use Rattle.questions.proofs.asking.listed_asked.Goals as goal

pub returns-then-number-lt-ADDRESSES : goal.returns-then-number-lt-ADDRESSES
unfolding slot_asked
returns-then-number-lt-ADDRESSES c = record { value = rw (lt-ltb _ _ c.if-number-lt-ADDRESSES.true) c.listed_slot.ensures.value; in_room = c.listed_slot.ensures.in_room }

pub returns-else-number-lt-ADDRESSES : goal.returns-else-number-lt-ADDRESSES
unfolding slot_asked
returns-else-number-lt-ADDRESSES c = record { value = rw (le-ltb _ _ c.if-number-lt-ADDRESSES.false); in_room = tt }
