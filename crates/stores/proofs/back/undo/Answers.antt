-- `stores::back::undo` meets its contract. Assumes nothing.
use Rattle.std.proofs.Common.{◌-◌, ◌<◌, ◌≤◌, arith, eq-eqb, ne_eqb, le-leb}
use borrow.Author.Tests.{lt-leb}
use Rattle.shape.specs.Layout.{ring_at, old_size}
use Rattle.stores.specs.Stepping.{undone}
use Rattle.stores.proofs.back.undo.Goals as goal

pub returns-then-offset-le-LAST_OFFSET : goal.returns-then-offset-le-LAST_OFFSET
unfolding undone
returns-then-offset-le-LAST_OFFSET c =
    let lies : c.number_at-offset.result ≤ ring_at - old_size = omega arith in
    rw (← c.offset_at.ensures, ← c.number_at-offset.ensures, le-leb _ _ lies, ← c.old_at.ensures) c.copy_sixteen.ensures

pub returns-then-offset : goal.returns-then-offset
unfolding undone
returns-then-offset c =
    let beyond : ring_at - old_size < c.number_at-offset.result = omega arith in
    rw (← c.offset_at.ensures, ← c.number_at-offset.ensures, lt-leb _ _ beyond, eq-eqb _ _ c.if-offset.true) c.leave.ensures

pub returns-else-offset : goal.returns-else-offset
unfolding undone
returns-else-offset c =
    let beyond : ring_at - old_size < c.number_at-offset.result = omega arith in
    rw (← c.offset_at.ensures, ← c.number_at-offset.ensures, lt-leb _ _ beyond, ne_eqb _ _ c.if-offset.false)
