-- `layouts::layout::held_in` meets its contract.
-- Assumes nothing.
use borrow.Author.Tests.{lt-ltb, le-ltb}
use borrow.Author.Rules.{rules}
use Rattle.layouts.specs.Layout.{held_in}
use Rattle.layouts.proofs.layout.held_in.Goals as goal

pub returns-then-b : goal.returns-then-b
unfolding held_in
returns-then-b c = rw (lt-ltb _ _ c.if-b.true)

pub returns-then-blank_between : goal.returns-then-blank_between
unfolding held_in
returns-then-blank_between c = rw (le-ltb _ _ c.if-b.false, ← c.blank_between.ensures, c.if-blank_between.true, ← c.taken.ensures) c.held_by.ensures

pub returns-else-blank_between : goal.returns-else-blank_between
unfolding held_in
returns-else-blank_between c = rw (le-ltb _ _ c.if-b.false, ← c.blank_between.ensures, c.if-blank_between.false)
