-- `frame::rows::blind_module` meets its contract.
-- Assumes nothing.
use Rattle.laws.proofs.Keys.{passed_over}
use Rattle.kinds.specs.Types.{Entry, no_row, every_type, blind_only}
use mathlib.Core.Path.{sym, ◌∙◌}
use borrow.Author.Rules.{rules}
use Rattle.frame.proofs.rows.blind_module.Goals as goal

pub returns-in-255 : goal.returns-in-255
returns-in-255 c = rw c.in-255.is

pub returns-in-236 : goal.returns-in-236
returns-in-236 c = rw c.in-236.is

pub returns-in-4 : goal.returns-in-4
returns-in-4 c = rw c.in-4.is

pub returns-in-5 : goal.returns-in-5
returns-in-5 c = rw c.in-5.is

pub returns-in-6 : goal.returns-in-6
returns-in-6 c = rw c.in-6.is

pub returns-in_default : goal.returns-in_default
returns-in_default c = c.every_type.ensures ∙ sym (passed_over (λ (e : Entry). e.command) (λ (e : Entry). e.listed) no_row blind_only every_type c.args.command c.in_default.in_default-own.rest)
