-- `changes::telling::put_four` meets its contract. Assumes nothing.
use Rattle.std.proofs.Common.{[], ◌∷◌, rules}
use Rattle.stores.specs.Stores.{put_at, written}
use Rattle.places.specs.Runs.{tells}
use Rattle.changes.proofs.Told.{written_four}
use Rattle.changes.proofs.telling.put_four.Goals as goal

pub returns : goal.returns
unfolding written put_at
returns c =
    let a = c.args in
    written_four a.picture.now a.at (tells a.a ∷ tells a.b ∷ tells a.c ∷ tells a.d ∷ []) c.put_pair.ensures c.put_pair-2.ensures c.put_pair-3.ensures c.put_pair-4.ensures
