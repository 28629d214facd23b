-- `changes::telling::put_some` meets its contract. Assumes nothing.
use Rattle.std.proofs.Common.{◌+◌, [], ◌∷◌, rules}
use Rattle.stores.specs.Stores.{written}
use Rattle.places.specs.Runs.{led_if}
use Rattle.changes.proofs.Told.{written_four}
use Rattle.changes.proofs.telling.put_some.Goals as goal

pub returns : goal.returns
unfolding written
returns c =
    let a = c.args in
    let led = led_if a.mask a.value in
    written_four a.picture.now a.at (led a.i ∷ led (a.i + 1) ∷ led (a.i + 2) ∷ led (a.i + 3) ∷ []) c.put_if.ensures c.put_if-2.ensures c.put_if-3.ensures c.put_if-4.ensures
