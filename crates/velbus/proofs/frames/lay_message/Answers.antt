-- `velbus::frames::lay_message` meets its contract. Assumes nothing.
use borrow.Author.Rules.{rules}
use Rattle.velbus.proofs.frames.lay_message.Goals as goal

pub returns : goal.returns
returns c = record { value = c.room_word.ensures; message_after = rw (← c.parts_of.ensures, ← c.laid-bytes.ensures) c.copy_in.ensures }
