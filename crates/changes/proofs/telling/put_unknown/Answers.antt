-- `changes::telling::put_unknown` meets its contract. Assumes nothing.
use Rattle.std.proofs.Common.{replicate, rules}
use Rattle.stores.specs.Stores.{put_at, written}
use Rattle.places.specs.Runs.{asks}
use Rattle.changes.proofs.Told.{written_four}
use Rattle.changes.proofs.telling.put_unknown.Goals as goal

pub returns : goal.returns
unfolding written put_at
returns c =
    let a = c.args in
    written_four a.picture.now a.at (replicate 4 asks) c.put_pair.ensures c.put_pair-2.ensures c.put_pair-3.ensures c.put_pair-4.ensures
