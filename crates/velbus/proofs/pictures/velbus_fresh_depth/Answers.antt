-- `velbus::pictures::velbus_fresh_depth` meets its contract. Assumes nothing.
use borrow.Author.Rules.{rules}
use Rattle.velbus.proofs.pictures.velbus_fresh_depth.Goals as goal

pub returns : goal.returns
returns c = record { value = rw (← c.fresh_with.ensures.value, ← c.by_code.ensures) c.outcome_word.ensures; picture_after = c.fresh_with.ensures.picture_after }
