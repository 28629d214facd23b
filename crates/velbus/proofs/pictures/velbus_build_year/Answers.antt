-- `velbus::pictures::velbus_build_year` meets its contract. Assumes nothing.
use borrow.Author.Rules.{rules}
use Rattle.velbus.proofs.pictures.velbus_build_year.Goals as goal

pub returns : goal.returns
returns c = rw (← c.build_year.ensures, ← c.by_code.ensures) c.answer_word.ensures
