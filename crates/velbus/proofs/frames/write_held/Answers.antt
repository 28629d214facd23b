use Rattle.velbus.proofs.frames.write_held.Goals as goal

pub returns-in-Some : goal.returns-in-Some
returns-in-Some c = record { value = rw c.in-Some.is c.write_message.ensures.value; out_after = rw c.in-Some.is c.write_message.ensures.out_after }

pub returns-in-None : goal.returns-in-None
returns-in-None c = record { value = rw c.in-None.is c.unheld_word.ensures; out_after = rw c.in-None.is }
