-- `kinds::types::last_cell` meets its contract.
-- Assumes nothing.
use Rattle.kinds.specs.Types.{extent_of}
use borrow.Author.Rules.{rules}
use Rattle.kinds.proofs.types.last_cell.Goals as goal

pub returns : goal.returns
unfolding extent_of
returns c = rw (c.from_end.ensures, c.extent_of-e.ensures)
