-- `commands::forms::character_in` meets its contract. Assumes nothing.
use Rattle.std.proofs.Common.{rules}
use Rattle.commands.proofs.forms.character_in.Goals as goal

pub returns : goal.returns
returns c = rw (← (rw (c.wide32.ensures, c.byte_at.ensures) at c.name_of-name.ensures)) c.character_place.ensures
