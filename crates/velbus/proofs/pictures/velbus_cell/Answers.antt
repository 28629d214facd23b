-- `velbus::pictures::velbus_cell` meets its contract. Assumes nothing.
use borrow.Author.Rules.{rules}
use Rattle.velbus.proofs.pictures.velbus_cell.Goals as goal

pub returns : goal.returns
returns c = rw (← c.cell.ensures, ← c.by_code.ensures) c.answer_word.ensures
