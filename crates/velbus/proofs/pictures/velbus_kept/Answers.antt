-- `velbus::pictures::velbus_kept` meets its contract. Assumes nothing.
use Rattle.velbus.proofs.pictures.velbus_kept.Goals as goal

pub returns : goal.returns
returns c = rw (← c.kept.ensures) c.value_word.ensures
