-- `frame::rows::row_for` meets its contract.
-- Assumes nothing.
use Rattle.kinds.proofs.Listed.{other_rows}
use Rattle.kinds.specs.Types.{rows_of}
use borrow.Author.Rules.{rules}
use Rattle.frame.proofs.rows.row_for.Goals as goal

pub returns-in-3 : goal.returns-in-3
unfolding rows_of
returns-in-3 c = rw c.in-3.is c.blind_module.ensures

pub returns-in-10 : goal.returns-in-10
unfolding rows_of
returns-in-10 c = rw c.in-10.is c.vmb8ir.ensures

pub returns-in-9 : goal.returns-in-9
unfolding rows_of
returns-in-9 c = rw c.in-9.is c.blind_module-in-9.ensures

pub returns-in_default : goal.returns-in_default
returns-in_default c = rw (other_rows c.args.kind c.in_default.in_default-own.rest)
