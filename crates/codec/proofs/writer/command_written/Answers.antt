use Rattle.codec.specs.Writing.{command_written}
use Rattle.codec.proofs.writer.command_written.Goals as goal

pub returns : goal.returns
unfolding command_written
returns c = rw (← c.encoded.ensures) c.written_as.ensures
