-- `stores::entries::save` meets its contract. Assumes nothing.
use Rattle.std.proofs.Common.{length, arith, rules}
use borrow.Author.Tests.{not-true, not-false}
use Rattle.stores.specs.Log.{saved_in}
use Rattle.stores.proofs.Within.{within}
use Rattle.stores.proofs.entries.save.Goals as goal

pub returns-then-not-lies : goal.returns-then-not-lies
unfolding saved_in
returns-then-not-lies c = rw (← c.lies.ensures, c.if-not-lies.true)

pub save_at-requires : goal.save_at-requires
save_at-requires c =
    let a = c.args in
    let w = within (length a.picture.now) a.slot a.start 1 c.lies.ensures (c.if-not-lies.false) in
    (w.long, w.listed, omega (arith, w.ends))

pub returns : goal.returns
unfolding saved_in
returns c = rw (← c.lies.ensures, c.if-not-lies.false) c.save_at.ensures
