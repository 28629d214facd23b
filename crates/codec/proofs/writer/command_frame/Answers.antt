use Rattle.kinds.proofs.Listed.{row_priority}
use Rattle.codec.proofs.writer.command_frame.Goals as goal

pub identifier_of-requires : goal.identifier_of-requires
identifier_of-requires c = rw c.row_for-row.ensures (row_priority c.args.own c.args.d.1)
