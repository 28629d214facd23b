-- `velbus::recordings::velbus_put_record` meets its contract. Assumes nothing.
use borrow.Author.Rules.{rules}
use Rattle.velbus.proofs.recordings.velbus_put_record.Goals as goal

pub returns : goal.returns
returns c = record { value = rw (← c.put_record.ensures.value) c.put_word.ensures; buffer_after = c.put_record.ensures.buf_after }
