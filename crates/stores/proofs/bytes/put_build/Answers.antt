-- `stores::bytes::put_build` meets its contract. Assumes nothing.
use Rattle.std.proofs.Common.{rules}
use Rattle.stores.specs.Stores.{put_at, written}
use Rattle.stores.proofs.bytes.put_build.Goals as goal

pub returns : goal.returns
unfolding written put_at
returns c = rw (← c.place_at-at.ensures, ← c.put_pair.ensures) c.put_pair-2.ensures
