-- `fields::fields::timeouts_allowed` meets its contract.
-- Assumes nothing.
use Rattle.kinds.proofs.Listed.{other_line}
use Rattle.kinds.specs.Types.{line_of, blinds_of}
use Rattle.fields.proofs.fields.timeouts_allowed.Goals as goal

pub returns-in-3 : goal.returns-in-3
unfolding line_of
returns-in-3 c = rw c.in-3.is

pub returns-in-10 : goal.returns-in-10
unfolding line_of
returns-in-10 c = rw c.in-10.is

pub returns-in-9 : goal.returns-in-9
unfolding line_of
returns-in-9 c = rw c.in-9.is

pub returns-in_default : goal.returns-in_default
returns-in_default c = rw (other_line c.args.kind c.in_default.in_default-own.rest, blinds_of)
