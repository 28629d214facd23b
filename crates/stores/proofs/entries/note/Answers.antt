-- `stores::entries::note` meets its contract. Assumes nothing.
use Rattle.std.proofs.Common.{arith, rules, le-ltb, lt-ltb}
use Rattle.stores.specs.Log.{noted_in}
use Rattle.stores.proofs.Storing.{next_small}
use Rattle.stores.proofs.entries.note.Goals as goal

pub returns-then-picture-lt-SIZE : goal.returns-then-picture-lt-SIZE
unfolding noted_in
returns-then-picture-lt-SIZE c = rw (lt-ltb _ _ c.if-picture-lt-SIZE.true)

pub note_at-requires : goal.note_at-requires
note_at-requires c = omega (arith, next_small c.args.picture.now)

pub returns : goal.returns
unfolding noted_in
returns c = rw (le-ltb _ _ c.if-picture-lt-SIZE.false, ← c.next_of-entry.ensures) c.note_at.ensures
