-- `replies::cells::cell_at` meets its contract. Assumes nothing.
use borrow.Author.Rules.{rules}
use Rattle.replies.proofs.cells.cell_at.Goals as goal

pub returns : goal.returns
returns c = rw (← c.cell_place-p.ensures) c.byte_at.ensures
