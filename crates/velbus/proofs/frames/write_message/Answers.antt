use Rattle.velbus.proofs.frames.write_message.Goals as goal

pub returns-in-Ok : goal.returns-in-Ok
returns-in-Ok c = record { value = rw (← c.in-Ok.ensures) c.lay_frame.ensures.value; out_after = rw (← c.in-Ok.ensures) c.lay_frame.ensures.out_after }

pub returns-in-Err : goal.returns-in-Err
returns-in-Err c = record { value = rw (← c.in-Err.ensures, ← c.code.ensures) c.refused.ensures; out_after = rw (← c.in-Err.ensures) }
