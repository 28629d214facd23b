-- `replies::leds::few_lights` meets its contract. Assumes nothing.
use Rattle.laws.specs.Tab.{tab}
use borrow.Author.Rules.{rules}
use Rattle.replies.proofs.leds.few_lights.Goals as goal

pub returns : goal.returns
unfolding tab
returns c = rw (c.byte_at.ensures, c.byte_at-2.ensures, c.byte_at-3.ensures, c.byte_at-4.ensures, c.byte_at-5.ensures, c.byte_at-6.ensures, c.byte_at-7.ensures, c.byte_at-8.ensures)
