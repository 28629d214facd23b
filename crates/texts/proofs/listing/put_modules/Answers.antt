-- `texts::listing::put_modules` meets its contract. Assumes nothing.
use Rattle.std.proofs.Common.{◌≡◌, ℕ, List, sym, subst, arith}
use Rattle.shape.specs.Limits.{addresses}
use Rattle.texts.specs.Text.{Written}
use Rattle.texts.specs.Listing.{modules_text}
use Rattle.texts.proofs.Texts.{followed, nothing}
use Rattle.texts.proofs.Listings.{modules_none, modules_more, module_room}
use Rattle.texts.proofs.listing.put_modules.Goals as goal

pub loop-address-init : goal.loop-address-init
loop-address-init c =
    let a = c.args in
    nothing a.out.now a.at (modules_text a.picture.now 0) (modules_none a.picture.now)

pub put_module-next-requires : goal.put_module-next-requires
put_module-next-requires c =
    let l = c.loop-address in
    module_room c.args.picture.now l.address (omega arith) l.invariant c.requires

pub loop-address-preserved : goal.loop-address-preserved
loop-address-preserved c =
    let l = c.loop-address in
    let a = c.args in
    let p = c.put_module-next in
    subst (λ (text : List ℕ). Written a.out.now a.at text p.new.out p.result) (sym (modules_more a.picture.now l.address)) (followed l.invariant p.ensures)

pub returns : goal.returns
returns c =
    let l = c.loop-address in
    let a = c.args in
    let e : l.address ≡ addresses = omega arith in
    subst (λ (n : ℕ). Written a.out.now a.at (modules_text a.picture.now n) l.out l.next) e l.invariant
