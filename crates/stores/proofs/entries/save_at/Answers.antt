-- `stores::entries::save_at` meets its contract. Assumes nothing.
use Rattle.std.proofs.Common.{arith, rules}
use Rattle.stores.specs.Log.{saved}
use Rattle.stores.proofs.Storing.{next_small}
use Rattle.stores.proofs.entries.save_at.Goals as goal

pub copy_sixteen-requires : goal.copy_sixteen-requires
copy_sixteen-requires c = omega (arith, next_small c.args.picture.now)

pub note_at-requires : goal.note_at-requires
note_at-requires c = omega (arith, next_small c.args.picture.now, c.copy_sixteen.auto.s)

pub returns : goal.returns
unfolding saved
returns c = rw (← c.next_of-entry.ensures, ← c.place_at-from.ensures, ← c.old_at.ensures, ← c.copy_sixteen.ensures) c.note_at.ensures
