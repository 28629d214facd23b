-- `velbus::pictures::velbus_fresh` meets its contract. Assumes nothing.
use borrow.Author.Rules.{rules}
use Rattle.velbus.proofs.pictures.velbus_fresh.Goals as goal

pub returns : goal.returns
returns c = record { value = rw (← c.fresh.ensures.value, ← c.by_code.ensures) c.outcome_word.ensures; picture_after = c.fresh.ensures.picture_after }
