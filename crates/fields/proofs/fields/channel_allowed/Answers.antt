-- `fields::fields::channel_allowed` meets its contract.
-- Assumes nothing.
use Rattle.kinds.specs.Types.{extent_of, name_of, channels_of}
use Rattle.kinds.proofs.Positions.{among_position}
use Rattle.fields.proofs.fields.channel_allowed.Goals as goal

pub returns : goal.returns
unfolding extent_of name_of
returns c = rw (c.wide32.ensures, c.name_of.ensures, c.extent_of-e.ensures, among_position (channels_of c.args.kind) c.args.x)
