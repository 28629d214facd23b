-- `bench::deeds::act` meets its contract. Assumes nothing.
use Rattle.bench.specs.Deeds.{store}
use borrow.Author.Rules.{rules}
use Rattle.bench.proofs.deeds.act.Goals as goal

pub returns-in-TypeLong : goal.returns-in-TypeLong
unfolding store
returns-in-TypeLong c = rw c.in-TypeLong.is

pub returns-in-TypeShort : goal.returns-in-TypeShort
unfolding store
returns-in-TypeShort c = rw c.in-TypeShort.is

pub returns-in-Buttons : goal.returns-in-Buttons
unfolding store
returns-in-Buttons c = rw c.in-Buttons.is

pub returns-in-CellTold : goal.returns-in-CellTold
unfolding store
returns-in-CellTold c = rw c.in-CellTold.is

pub returns-in-BlockTold : goal.returns-in-BlockTold
unfolding store
returns-in-BlockTold c = rw c.in-BlockTold.is

pub returns-in-CellAsked : goal.returns-in-CellAsked
unfolding store
returns-in-CellAsked c = rw c.in-CellAsked.is

pub returns-in-BlockAsked : goal.returns-in-BlockAsked
unfolding store
returns-in-BlockAsked c = rw c.in-BlockAsked.is

pub returns-in-DumpAsked : goal.returns-in-DumpAsked
unfolding store
returns-in-DumpAsked c = rw c.in-DumpAsked.is

pub returns-in-CellSet : goal.returns-in-CellSet
unfolding store
returns-in-CellSet c = rw c.in-CellSet.is c.set_cell.ensures

pub returns-in-BlockSet : goal.returns-in-BlockSet
unfolding store
returns-in-BlockSet c = rw c.in-BlockSet.is c.set_block.ensures

pub returns-in-Errors : goal.returns-in-Errors
unfolding store
returns-in-Errors c = rw c.in-Errors.is

pub returns-in-ErrorsAsked : goal.returns-in-ErrorsAsked
unfolding store
returns-in-ErrorsAsked c = rw c.in-ErrorsAsked.is

pub returns-in-NameOne : goal.returns-in-NameOne
unfolding store
returns-in-NameOne c = rw c.in-NameOne.is

pub returns-in-NameTwo : goal.returns-in-NameTwo
unfolding store
returns-in-NameTwo c = rw c.in-NameTwo.is

pub returns-in-NameThree : goal.returns-in-NameThree
unfolding store
returns-in-NameThree c = rw c.in-NameThree.is

pub returns-in-NameAsked : goal.returns-in-NameAsked
unfolding store
returns-in-NameAsked c = rw c.in-NameAsked.is

pub returns-in-StatusAsked : goal.returns-in-StatusAsked
unfolding store
returns-in-StatusAsked c = rw c.in-StatusAsked.is

pub returns-in-InputStatus : goal.returns-in-InputStatus
unfolding store
returns-in-InputStatus c = rw c.in-InputStatus.is

pub returns-in-LedsAll : goal.returns-in-LedsAll
unfolding store
returns-in-LedsAll c = rw c.in-LedsAll.is c.set_all.ensures

pub returns-in-Leds : goal.returns-in-Leds
unfolding store
returns-in-Leds c = rw c.in-Leds.is c.set_glow.ensures

pub returns-in-BlindStatus : goal.returns-in-BlindStatus
unfolding store
returns-in-BlindStatus c = rw c.in-BlindStatus.is

pub returns-in-BlindStop : goal.returns-in-BlindStop
unfolding store
returns-in-BlindStop c = rw c.in-BlindStop.is

pub returns-in-BlindUp : goal.returns-in-BlindUp
unfolding store
returns-in-BlindUp c = rw c.in-BlindUp.is

pub returns-in-BlindDown : goal.returns-in-BlindDown
unfolding store
returns-in-BlindDown c = rw c.in-BlindDown.is
