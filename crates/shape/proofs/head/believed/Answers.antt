-- `shape::head::believed` meets its contract. Assumes nothing.
use mathlib.Core.Path.{sym, ◌∙◌}
use borrow.Author.Rules.{rules}
use Rattle.shape.specs.Head.{believed}
use Rattle.shape.proofs.head.believed.Goals as goal

pub returns-then-is_listed : goal.returns-then-is_listed
unfolding believed
returns-then-is_listed c = rw (sym c.is_listed.ensures ∙ c.if-is_listed.true, ← c.record_at.ensures, ← c.byte_at.ensures)

pub returns-else-is_listed : goal.returns-else-is_listed
unfolding believed
returns-else-is_listed c = rw (sym c.is_listed.ensures ∙ c.if-is_listed.false)
