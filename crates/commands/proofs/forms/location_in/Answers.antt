-- `commands::forms::location_in` meets its contract.
-- Assumes nothing.
use Rattle.std.proofs.Common.{rules}
use Rattle.commands.proofs.forms.location_in.Goals as goal

pub returns : goal.returns
returns c = rw (c.location_of.ensures, c.byte_at-2.ensures, c.byte_at.ensures)
