-- `changes::leds::four_bytes` meets its contract. Assumes nothing.
use Rattle.std.proofs.Common.{rules}
use Rattle.changes.proofs.leds.four_bytes.Goals as goal

pub returns : goal.returns
returns c = rw (← c.four_leds.ensures) c.word_bytes.ensures
