-- `velbus::frames::lay_frame` meets its contract. Assumes nothing.
use borrow.Author.Rules.{rules}
use Rattle.velbus.proofs.frames.lay_frame.Goals as goal

pub returns : goal.returns
returns c = record { value = c.room_word.ensures; out_after = rw (← c.frame_bytes-bytes.ensures) c.copy_in.ensures }
