-- `fields::fields::buttons_fault` meets its contract.
-- Assumes nothing.
use Rattle.kinds.specs.Types.{line_of}
use Rattle.fields.specs.Fields.{buttons_allowed}
use Rattle.fields.proofs.fields.buttons_fault.Goals as goal

pub returns-in-10 : goal.returns-in-10
unfolding buttons_allowed line_of
returns-in-10 c = rw c.in-10.is

pub returns-in-9 : goal.returns-in-9
unfolding buttons_allowed line_of
returns-in-9 c = rw c.in-9.is

pub returns-in_default : goal.returns-in_default
returns-in_default c = c.some_buttons_fault.ensures
