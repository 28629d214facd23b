-- `texts::listing::put_module` meets its contract. Assumes nothing.
use mathlib.Core.Path.{ap, sym, subst}
use mathlib.Core.List.{List}
use Prim.Native.Nat.{ℕ}
use Rattle.texts.specs.Text.{Fits, Written}
use Rattle.texts.specs.Listing.{typed_text, module_text}
use Rattle.texts.proofs.Texts.{nothing}
use Rattle.texts.proofs.listing.put_module.Goals as goal

pub put_sheet-requires : goal.put_sheet-requires
unfolding module_text
put_sheet-requires c =
    let a = c.args in
    subst (Fits a.out.now a.at) (sym (ap (typed_text a.picture.now a.address) (rw c.in-Ok.is at c.type_of.ensures))) c.requires

pub returns-in-Ok : goal.returns-in-Ok
unfolding module_text
returns-in-Ok c =
    let a = c.args in
    let p = c.put_sheet in
    subst (λ (text : List ℕ). Written a.out.now a.at text p.new.out p.result)
    (ap (typed_text a.picture.now a.address) (rw c.in-Ok.is at c.type_of.ensures)) p.ensures

pub returns-in-Err : goal.returns-in-Err
unfolding module_text
returns-in-Err c =
    let a = c.args in
    nothing a.out.now a.at (module_text a.picture.now a.address) (sym (ap (typed_text a.picture.now a.address) (rw c.in-Err.is at c.type_of.ensures)))
