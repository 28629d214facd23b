-- `layouts::parts::command_parts` meets its contract. Assumes nothing.
use Rattle.layouts.specs.Parts.{command_parts}
use borrow.Author.Rules.{rules}
use Rattle.layouts.proofs.parts.command_parts.Goals as goal

pub returns-in-TypeLong : goal.returns-in-TypeLong
unfolding command_parts
returns-in-TypeLong c = rw (c.in-TypeLong.is, c.free.ensures, c.long_number.ensures)

pub returns-in-TypeShort : goal.returns-in-TypeShort
unfolding command_parts
returns-in-TypeShort c = rw (c.in-TypeShort.is, c.free-in-TypeShort.ensures, c.short_number.ensures)

pub returns-in-Buttons : goal.returns-in-Buttons
unfolding command_parts
returns-in-Buttons c = rw (c.in-Buttons.is, c.free-in-Buttons.ensures)

pub returns-in-CellTold : goal.returns-in-CellTold
unfolding command_parts
returns-in-CellTold c = rw (c.in-CellTold.is, c.located.ensures)

pub returns-in-BlockTold : goal.returns-in-BlockTold
unfolding command_parts
returns-in-BlockTold c = rw (c.in-BlockTold.is, c.located-in-BlockTold.ensures)

pub returns-in-CellAsked : goal.returns-in-CellAsked
unfolding command_parts
returns-in-CellAsked c = rw (c.in-CellAsked.is, c.located-in-CellAsked.ensures)

pub returns-in-BlockAsked : goal.returns-in-BlockAsked
unfolding command_parts
returns-in-BlockAsked c = rw (c.in-BlockAsked.is, c.located-in-BlockAsked.ensures)

pub returns-in-DumpAsked : goal.returns-in-DumpAsked
unfolding command_parts
returns-in-DumpAsked c = rw (c.in-DumpAsked.is, c.free-in-DumpAsked.ensures)

pub returns-in-CellSet : goal.returns-in-CellSet
unfolding command_parts
returns-in-CellSet c = rw (c.in-CellSet.is, c.located-in-CellSet.ensures)

pub returns-in-BlockSet : goal.returns-in-BlockSet
unfolding command_parts
returns-in-BlockSet c = rw (c.in-BlockSet.is, c.located-in-BlockSet.ensures)

pub returns-in-Errors : goal.returns-in-Errors
unfolding command_parts
returns-in-Errors c = rw (c.in-Errors.is, c.free-in-Errors.ensures)

pub returns-in-ErrorsAsked : goal.returns-in-ErrorsAsked
unfolding command_parts
returns-in-ErrorsAsked c = rw (c.in-ErrorsAsked.is, c.free-in-ErrorsAsked.ensures)

pub returns-in-NameOne : goal.returns-in-NameOne
unfolding command_parts
returns-in-NameOne c = rw (c.in-NameOne.is, c.channelled.ensures)

pub returns-in-NameTwo : goal.returns-in-NameTwo
unfolding command_parts
returns-in-NameTwo c = rw (c.in-NameTwo.is, c.channelled-in-NameTwo.ensures)

pub returns-in-NameThree : goal.returns-in-NameThree
unfolding command_parts
returns-in-NameThree c = rw (c.in-NameThree.is, c.channelled-in-NameThree.ensures)

pub returns-in-NameAsked : goal.returns-in-NameAsked
unfolding command_parts
returns-in-NameAsked c = rw (c.in-NameAsked.is, c.channelled-in-NameAsked.ensures)

pub returns-in-StatusAsked : goal.returns-in-StatusAsked
unfolding command_parts
returns-in-StatusAsked c = rw (c.in-StatusAsked.is, c.channelled-in-StatusAsked.ensures)

pub returns-in-InputStatus : goal.returns-in-InputStatus
unfolding command_parts
returns-in-InputStatus c = rw (c.in-InputStatus.is, c.free-in-InputStatus.ensures)

pub returns-in-LedsAll : goal.returns-in-LedsAll
unfolding command_parts
returns-in-LedsAll c = rw (c.in-LedsAll.is, c.free-in-LedsAll.ensures)

pub returns-in-Leds : goal.returns-in-Leds
unfolding command_parts
returns-in-Leds c = rw (c.in-Leds.is, c.glowing.ensures)

pub returns-in-BlindStatus : goal.returns-in-BlindStatus
unfolding command_parts
returns-in-BlindStatus c = rw (c.in-BlindStatus.is, c.channelled-in-BlindStatus.ensures)

pub returns-in-BlindStop : goal.returns-in-BlindStop
unfolding command_parts
returns-in-BlindStop c = rw (c.in-BlindStop.is, c.channelled-in-BlindStop.ensures)

pub returns-in-BlindUp : goal.returns-in-BlindUp
unfolding command_parts
returns-in-BlindUp c = rw (c.in-BlindUp.is, c.timed.ensures)

pub returns-in-BlindDown : goal.returns-in-BlindDown
unfolding command_parts
returns-in-BlindDown c = rw (c.in-BlindDown.is, c.timed-in-BlindDown.ensures)
