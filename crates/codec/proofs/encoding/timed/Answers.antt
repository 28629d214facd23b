-- `codec::encoding::timed` meets its contract.
-- Assumes nothing.
use borrow.Author.Rules.{rules}
use Rattle.codec.proofs.encoding.timed.Goals as goal

pub returns : goal.returns
returns c = rw c.seconds-s.ensures
