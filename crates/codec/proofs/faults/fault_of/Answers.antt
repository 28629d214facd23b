-- `codec::faults::fault_of` meets its contract.
-- Assumes nothing.
use borrow.Author.Rules.{rules}
use Rattle.codec.proofs.faults.fault_of.Goals as goal

pub returns-in-TypeLong : goal.returns-in-TypeLong
returns-in-TypeLong c = rw c.in-TypeLong.is

pub returns-in-TypeShort : goal.returns-in-TypeShort
returns-in-TypeShort c = rw (c.in-TypeShort.is, c.type_short_fault.ensures, c.wide32.ensures)

pub returns-in-Buttons : goal.returns-in-Buttons
returns-in-Buttons c = rw (c.in-Buttons.is, c.buttons_fault.ensures)

pub returns-in-CellTold : goal.returns-in-CellTold
returns-in-CellTold c = rw (c.in-CellTold.is, c.cell_fault.ensures)

pub returns-in-BlockTold : goal.returns-in-BlockTold
returns-in-BlockTold c = rw (c.in-BlockTold.is, c.block_fault.ensures)

pub returns-in-CellAsked : goal.returns-in-CellAsked
returns-in-CellAsked c = rw (c.in-CellAsked.is, c.cell_fault-in-CellAsked.ensures)

pub returns-in-BlockAsked : goal.returns-in-BlockAsked
returns-in-BlockAsked c = rw (c.in-BlockAsked.is, c.block_fault-in-BlockAsked.ensures)

pub returns-in-DumpAsked : goal.returns-in-DumpAsked
returns-in-DumpAsked c = rw c.in-DumpAsked.is

pub returns-in-CellSet : goal.returns-in-CellSet
returns-in-CellSet c = rw (c.in-CellSet.is, c.cell_fault-in-CellSet.ensures)

pub returns-in-BlockSet : goal.returns-in-BlockSet
returns-in-BlockSet c = rw (c.in-BlockSet.is, c.block_fault-in-BlockSet.ensures)

pub returns-in-Errors : goal.returns-in-Errors
returns-in-Errors c = rw c.in-Errors.is

pub returns-in-ErrorsAsked : goal.returns-in-ErrorsAsked
returns-in-ErrorsAsked c = rw c.in-ErrorsAsked.is

pub returns-in-NameOne : goal.returns-in-NameOne
returns-in-NameOne c = rw (c.in-NameOne.is, c.channel_fault.ensures)

pub returns-in-NameTwo : goal.returns-in-NameTwo
returns-in-NameTwo c = rw (c.in-NameTwo.is, c.channel_fault-in-NameTwo.ensures)

pub returns-in-NameThree : goal.returns-in-NameThree
returns-in-NameThree c = rw (c.in-NameThree.is, c.last_part_fault.ensures)

pub returns-in-NameAsked : goal.returns-in-NameAsked
returns-in-NameAsked c = rw (c.in-NameAsked.is, c.name_asked_fault.ensures)

pub returns-in-StatusAsked : goal.returns-in-StatusAsked
returns-in-StatusAsked c = rw (c.in-StatusAsked.is, c.status_asked_fault.ensures)

pub returns-in-InputStatus : goal.returns-in-InputStatus
returns-in-InputStatus c = rw c.in-InputStatus.is

pub returns-in-LedsAll : goal.returns-in-LedsAll
returns-in-LedsAll c = rw c.in-LedsAll.is

pub returns-in-Leds : goal.returns-in-Leds
returns-in-Leds c = rw c.in-Leds.is

pub returns-in-BlindStatus : goal.returns-in-BlindStatus
returns-in-BlindStatus c = rw (c.in-BlindStatus.is, c.blind_status_fault.ensures)

pub returns-in-BlindStop : goal.returns-in-BlindStop
returns-in-BlindStop c = rw (c.in-BlindStop.is, c.stop_fault.ensures)

pub returns-in-BlindUp : goal.returns-in-BlindUp
returns-in-BlindUp c = rw (c.in-BlindUp.is, c.timed_fault.ensures)

pub returns-in-BlindDown : goal.returns-in-BlindDown
returns-in-BlindDown c = rw (c.in-BlindDown.is, c.timed_fault-in-BlindDown.ensures)
