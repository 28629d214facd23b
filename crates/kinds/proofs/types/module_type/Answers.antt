-- `kinds::types::module_type` meets its contract.
-- Assumes nothing.
use Rattle.kinds.specs.Types.{module_types}
use Rattle.laws.proofs.Keys.{not_among}
use mathlib.Core.Path.{sym}
use Rattle.kinds.proofs.types.module_type.Goals as goal

pub returns-in-3 : goal.returns-in-3
returns-in-3 c = cc

pub returns-in-10 : goal.returns-in-10
returns-in-10 c = cc

pub returns-in-9 : goal.returns-in-9
returns-in-9 c = cc

pub returns-in_default : goal.returns-in_default
returns-in_default c = sym (not_among c.args.kind module_types c.in_default.in_default-own.rest)
