-- `questions::rows::cells_in` meets its contract. Assumes nothing.
use Rattle.questions.proofs.rows.cells_in.Goals as goal

pub returns : goal.returns
returns c = rw (← c.kind_in.ensures, ← c.wide32.ensures, ← c.extent_of-e.ensures)
