-- `bench::sending::answer` meets its contract. Assumes nothing.
use Rattle.bench.specs.Sending.{all_bytes}
use borrow.Author.Rules.{rules}
use Rattle.bench.proofs.sending.answer.Goals as goal

pub returns-in-TypeLong : goal.returns-in-TypeLong
unfolding all_bytes
returns-in-TypeLong c = rw c.in-TypeLong.is

pub returns-in-TypeShort : goal.returns-in-TypeShort
unfolding all_bytes
returns-in-TypeShort c = rw c.in-TypeShort.is

pub returns-in-Buttons : goal.returns-in-Buttons
unfolding all_bytes
returns-in-Buttons c = rw c.in-Buttons.is

pub returns-in-CellTold : goal.returns-in-CellTold
unfolding all_bytes
returns-in-CellTold c = rw c.in-CellTold.is

pub returns-in-BlockTold : goal.returns-in-BlockTold
unfolding all_bytes
returns-in-BlockTold c = rw c.in-BlockTold.is

pub returns-in-CellAsked : goal.returns-in-CellAsked
returns-in-CellAsked c = rw c.in-CellAsked.is c.put_cell.ensures

pub returns-in-BlockAsked : goal.returns-in-BlockAsked
returns-in-BlockAsked c = rw c.in-BlockAsked.is c.put_block.ensures

pub returns-in-DumpAsked : goal.returns-in-DumpAsked
returns-in-DumpAsked c = rw c.in-DumpAsked.is c.put_dump.ensures

pub returns-in-CellSet : goal.returns-in-CellSet
unfolding all_bytes
returns-in-CellSet c = rw c.in-CellSet.is

pub returns-in-BlockSet : goal.returns-in-BlockSet
returns-in-BlockSet c = rw c.in-BlockSet.is c.put_block-in-BlockSet.ensures

pub returns-in-Errors : goal.returns-in-Errors
unfolding all_bytes
returns-in-Errors c = rw c.in-Errors.is

pub returns-in-ErrorsAsked : goal.returns-in-ErrorsAsked
returns-in-ErrorsAsked c = rw c.in-ErrorsAsked.is c.put_one.ensures

pub returns-in-NameOne : goal.returns-in-NameOne
unfolding all_bytes
returns-in-NameOne c = rw c.in-NameOne.is

pub returns-in-NameTwo : goal.returns-in-NameTwo
unfolding all_bytes
returns-in-NameTwo c = rw c.in-NameTwo.is

pub returns-in-NameThree : goal.returns-in-NameThree
unfolding all_bytes
returns-in-NameThree c = rw c.in-NameThree.is

pub returns-in-NameAsked : goal.returns-in-NameAsked
returns-in-NameAsked c = rw c.in-NameAsked.is c.put_name.ensures

pub returns-in-StatusAsked : goal.returns-in-StatusAsked
returns-in-StatusAsked c = rw c.in-StatusAsked.is c.put_status.ensures

pub returns-in-InputStatus : goal.returns-in-InputStatus
unfolding all_bytes
returns-in-InputStatus c = rw c.in-InputStatus.is

pub returns-in-LedsAll : goal.returns-in-LedsAll
unfolding all_bytes
returns-in-LedsAll c = rw c.in-LedsAll.is

pub returns-in-Leds : goal.returns-in-Leds
unfolding all_bytes
returns-in-Leds c = rw c.in-Leds.is

pub returns-in-BlindStatus : goal.returns-in-BlindStatus
unfolding all_bytes
returns-in-BlindStatus c = rw c.in-BlindStatus.is

pub returns-in-BlindStop : goal.returns-in-BlindStop
unfolding all_bytes
returns-in-BlindStop c = rw c.in-BlindStop.is

pub returns-in-BlindUp : goal.returns-in-BlindUp
unfolding all_bytes
returns-in-BlindUp c = rw c.in-BlindUp.is

pub returns-in-BlindDown : goal.returns-in-BlindDown
unfolding all_bytes
returns-in-BlindDown c = rw c.in-BlindDown.is
