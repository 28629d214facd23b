-- `bench::deeds::set_cell` meets its contract. Assumes nothing.
use Rattle.bench.proofs.Storing.{told-stored}
use mathlib.Core.List.{[], ◌∷◌}
use Prim.Native.Nat.{◌+◌}
use mathlib.Core.Path.{◌∙◌}
use borrow.Author.Rules.{rules}
use Rattle.bench.proofs.deeds.set_cell.Goals as goal

pub returns : goal.returns
returns c =
    let a = c.args in
    c.put_bytes.ensures ∙ rw c.cell_place.ensures (told-stored (a.v ∷ []) a.bench.now (256 + a.l.0))
