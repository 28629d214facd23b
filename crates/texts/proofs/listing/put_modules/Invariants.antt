-- `texts::listing::put_modules` meets its contract. Assumes nothing.
use Rattle.texts.specs.Text.{Written}
use Rattle.texts.specs.Listing.{modules_text}
use Rattle.texts.proofs.listing.put_modules.Given as goal

-- the lines of the addresses before this one are put
abbrev pub invariant-loop-address : goal.invariant-loop-address
invariant-loop-address l = Written l.initial.out l.at (modules_text l.picture l.address) l.out l.next
