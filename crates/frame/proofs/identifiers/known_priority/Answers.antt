-- `frame::identifiers::known_priority` meets its contract.
-- Assumes nothing.
use Rattle.kinds.specs.Types.{priorities}
use Rattle.laws.proofs.Keys.{not_among}
use mathlib.Core.Path.{sym}
use Rattle.frame.proofs.identifiers.known_priority.Goals as goal

pub returns-in-0 : goal.returns-in-0
returns-in-0 c = cc

pub returns-in-3 : goal.returns-in-3
returns-in-3 c = cc

pub returns-in_default : goal.returns-in_default
returns-in_default c = sym (not_among c.args.priority priorities c.in_default.in_default-own.rest)
