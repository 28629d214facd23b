-- `texts::listing::put_sheet` meets its contract. Assumes nothing.
use Prim.Native.Nat.{ℕ, ◌%◌}
use mathlib.Core.Path.{◌≡◌, ap, sym, subst, ◌∙◌}
use mathlib.Core.List.{List}
use borrow.Author.Rules.{rules}
use Rattle.kinds.specs.declared.types.Extent.{Extent}
use Rattle.places.proofs.Fitting.{extents_small}
use Rattle.texts.specs.Text.{Fits, Written}
use Rattle.texts.specs.Lines.{module_line}
use Rattle.texts.specs.Sheets.{whole_names, told_cells}
use Rattle.texts.specs.Listing.{sheet_text}
use Rattle.texts.proofs.listing.put_sheet.Goals as goal
use Rattle.texts.proofs.listing.put_sheet.Goals.{After-told_cells-cells}

-- the line of what was counted is the module's
line : (c : After-told_cells-cells) →
    let a = c.args in
    module_line (a.address % 256) a.kind c.whole_names-names.result c.told_cells-cells.result ≡ sheet_text a.picture.now a.address a.kind
unfolding sheet_text
line c =
    let a = c.args in
    let e = rw c.wide32.ensures at c.extent_of-extent.ensures in
    let names = c.whole_names-names.ensures ∙ ap (λ (x : Extent). whole_names a.picture.now a.address x.names) e in
    let cells = c.told_cells-cells.ensures ∙ ap (λ (x : Extent). told_cells a.picture.now a.address x.cells) e in
    λ i. module_line (a.address % 256) a.kind (names i) (cells i)

pub told_cells-cells-requires : goal.told_cells-cells-requires
told_cells-cells-requires c = rw c.extent_of-extent.ensures (extents_small c.wide32.result).cells_small

pub put_module_line-requires : goal.put_module_line-requires
put_module_line-requires c = subst (Fits c.args.out.now c.args.at) (sym (line (goal.at.put_module_line-requires c).After-told_cells-cells)) c.requires

pub returns : goal.returns
returns c =
    let a = c.args in
    let p = c.put_module_line in
    subst (λ (text : List ℕ). Written a.out.now a.at text p.new.out p.result) (line (goal.at.returns c).After-told_cells-cells) p.ensures
