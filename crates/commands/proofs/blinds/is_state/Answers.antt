-- `commands::blinds::is_state` meets its contract. Assumes nothing.
use Rattle.std.proofs.Common.{rules}
use Rattle.commands.proofs.blinds.is_state.Goals as goal

pub returns : goal.returns
returns c = rw (← c.either.ensures) c.either-2.ensures
