-- `frame::rows::vmb8ir` meets its contract.
-- Assumes nothing.
use Rattle.laws.proofs.Keys.{passed_over}
use Rattle.kinds.specs.Types.{Entry, no_row, every_type, vmb8ir_only}
use mathlib.Core.Path.{sym, ◌∙◌}
use borrow.Author.Rules.{rules}
use Rattle.frame.proofs.rows.vmb8ir.Goals as goal

pub returns-in-255 : goal.returns-in-255
returns-in-255 c = rw c.in-255.is

pub returns-in-235 : goal.returns-in-235
returns-in-235 c = rw c.in-235.is

pub returns-in-244 : goal.returns-in-244
returns-in-244 c = rw c.in-244.is

pub returns-in-245 : goal.returns-in-245
returns-in-245 c = rw c.in-245.is

pub returns-in-246 : goal.returns-in-246
returns-in-246 c = rw c.in-246.is

pub returns-in-247 : goal.returns-in-247
returns-in-247 c = rw c.in-247.is

pub returns-in-248 : goal.returns-in-248
returns-in-248 c = rw c.in-248.is

pub returns-in-249 : goal.returns-in-249
returns-in-249 c = rw c.in-249.is

pub returns-in_default : goal.returns-in_default
returns-in_default c = c.every_type.ensures ∙ sym (passed_over (λ (e : Entry). e.command) (λ (e : Entry). e.listed) no_row vmb8ir_only every_type c.args.command c.in_default.in_default-own.rest)
