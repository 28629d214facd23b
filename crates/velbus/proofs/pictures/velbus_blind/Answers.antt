-- `velbus::pictures::velbus_blind` meets its contract. Assumes nothing.
use borrow.Author.Rules.{rules}
use Rattle.velbus.proofs.pictures.velbus_blind.Goals as goal

pub returns : goal.returns
returns c = rw (← c.blind.ensures, ← c.by_code.ensures) c.answer_word.ensures
