-- `velbus::pictures::velbus_type` meets its contract. Assumes nothing.
use Rattle.velbus.proofs.pictures.velbus_type.Goals as goal

pub returns : goal.returns
returns c = rw (← c.type_of.ensures) c.value_word.ensures
