-- `velbus::pictures::velbus_listed` meets its contract. Assumes nothing.
use Rattle.velbus.proofs.pictures.velbus_listed.Goals as goal

pub returns : goal.returns
returns c = record { value = rw (← c.listed.ensures.value) c.filled_word.ensures; out_after = c.listed.ensures.out_after }
