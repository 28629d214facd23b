-- `replies::leds::lights` meets its contract. Assumes nothing.
use Rattle.laws.specs.Tab.{tab}
use borrow.Author.Rules.{rules}
use Rattle.replies.proofs.leds.lights.Goals as goal

pub returns : goal.returns
unfolding tab
returns c = search rules
