-- `texts::sheets::told_cells` meets its contract. Assumes nothing.
use mathlib.Core.Path.{refl, ◌∙◌}
use native.Mathlib.Omega.{arith}
use Rattle.laws.specs.Limits.{AllBytes}
use Rattle.texts.proofs.Cells.{cells_told}
use Rattle.texts.proofs.sheets.told_cells.Goals as goal

pub returns : goal.returns
returns c =
    let a = c.args in
    let bytes : AllBytes a.picture.now = λ i. omega (arith, c.type_inv.picture i) in
    c.told_in.ensures ∙ cells_told a.picture.now a.address a.n bytes _ refl c.requires c.memory_row-refused.ensures.out_after
