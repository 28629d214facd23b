-- `velbus::pictures::velbus_led` meets its contract. Assumes nothing.
use borrow.Author.Rules.{rules}
use Rattle.velbus.proofs.pictures.velbus_led.Goals as goal

pub returns : goal.returns
returns c = rw (← c.led.ensures, ← c.by_code.ensures) c.answer_word.ensures
