-- `stores::entries::note_at` meets its contract. Assumes nothing.
use Rattle.std.proofs.Common.{rules}
use Rattle.stores.specs.Log.{noted_at}
use Rattle.stores.proofs.entries.note_at.Goals as goal

pub returns : goal.returns
unfolding noted_at
returns c = rw (← c.offset_at.ensures) c.store_number.ensures
