-- `decoding::decoding::type_frame` meets its contract.
-- Assumes nothing.
use borrow.Author.Rules.{rules}
use Rattle.decoding.proofs.decoding.type_frame.Goals as goal

pub returns-then-has_long : goal.returns-then-has_long
returns-then-has_long c = rw (← c.has_long.ensures, c.if-has_long.true)

pub returns-else-has_long : goal.returns-else-has_long
returns-else-has_long c = rw (← c.has_long.ensures, c.if-has_long.false)
