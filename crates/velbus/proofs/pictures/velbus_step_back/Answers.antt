-- `velbus::pictures::velbus_step_back` meets its contract. Assumes nothing.
use borrow.Author.Rules.{rules}
use Rattle.velbus.proofs.pictures.velbus_step_back.Goals as goal

pub returns : goal.returns
returns c = record { value = rw (← c.step_back.ensures.value, ← c.by_code.ensures) c.outcome_word.ensures; picture_after = c.step_back.ensures.picture_after }
