use Rattle.codec.specs.Writing.{writing}
use Rattle.codec.proofs.writer.write.Goals as goal

pub returns-in-Tells : goal.returns-in-Tells
unfolding writing
returns-in-Tells c = rw c.in-Tells.is c.command_written.ensures
