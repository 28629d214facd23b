-- `frame::messages::has_long` meets its contract.
-- Assumes nothing.
use borrow.Author.Rules.{rules}
use Rattle.frame.proofs.messages.has_long.Goals as goal

pub returns : goal.returns
returns c = rw (c.row_for-row.ensures, c.wide32.ensures)
