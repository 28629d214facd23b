-- `velbus::pictures::velbus_build_week` meets its contract. Assumes nothing.
use borrow.Author.Rules.{rules}
use Rattle.velbus.proofs.pictures.velbus_build_week.Goals as goal

pub returns : goal.returns
returns c = rw (← c.build_week.ensures, ← c.by_code.ensures) c.answer_word.ensures
