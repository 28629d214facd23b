-- `frame::messages::location_of` meets its contract.
-- Assumes nothing.
use borrow.Author.Rules.{rules}
use Rattle.frame.proofs.messages.location_of.Goals as goal

pub returns : goal.returns
returns c = rw (c.wide16-2.ensures, c.wide16.ensures)
