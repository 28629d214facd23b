-- `texts::listing::put_fault` meets its contract. Assumes nothing.
use mathlib.Core.Path.{refl}
use mathlib.Core.List.{[]}
use Rattle.texts.specs.Listing.{fault_text}
use Rattle.texts.proofs.Texts.{nothing}
use Rattle.texts.proofs.listing.put_fault.Goals as goal

pub put_broken_line-requires : goal.put_broken_line-requires
unfolding fault_text
put_broken_line-requires c = rw c.in-Some.is at c.requires

pub returns-in-Some : goal.returns-in-Some
unfolding fault_text
returns-in-Some c = rw c.in-Some.is c.put_broken_line.ensures

pub returns-in-None : goal.returns-in-None
unfolding fault_text
returns-in-None c =
    let a = c.args in
    rw c.in-None.is (nothing a.out.now a.at [] refl)
