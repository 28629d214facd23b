-- `velbus::pictures::velbus_memory_row` meets its contract. Assumes nothing.
use Rattle.velbus.proofs.pictures.velbus_memory_row.Goals as goal

pub returns : goal.returns
returns c = record { value = rw (← c.memory_bytes.ensures.value) c.filled_word.ensures; out_after = c.memory_bytes.ensures.out_after }
