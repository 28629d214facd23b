-- `velbus::pictures::velbus_name` meets its contract. Assumes nothing.
use Rattle.velbus.proofs.pictures.velbus_name.Goals as goal

pub returns : goal.returns
returns c = record { value = rw (← c.name_bytes.ensures.value) c.value_word.ensures; out_after = c.name_bytes.ensures.out_after }
