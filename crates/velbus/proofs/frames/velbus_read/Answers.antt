use Rattle.velbus.proofs.frames.velbus_read.Goals as goal

pub returns-in-Ok : goal.returns-in-Ok
returns-in-Ok c = record { value = rw (← c.in-Ok.ensures) c.lay_message.ensures.value; message_after = rw (← c.in-Ok.ensures) c.lay_message.ensures.message_after }

pub returns-in-Err : goal.returns-in-Err
returns-in-Err c = record { value = rw (← c.in-Err.ensures, ← c.code.ensures) c.refused.ensures; message_after = rw (← c.in-Err.ensures) }
