-- `sight::arms::some_leds_set` meets its contract. Assumes nothing.
use Rattle.sight.proofs.Sight.{some_leds-set}
use Rattle.std.proofs.Common.{rules}
use Rattle.sight.proofs.arms.some_leds_set.Goals as goal

pub returns : goal.returns
returns c =
    let a = c.args in
    some_leds-set a.bench.now a.address a.identifier c.requires.0 a.replies.now a.«data».now a.state _ c.requires.1.0 c.requires.1.1 c.if-data-ne2.false (rw c.byte_at.ensures at c.set_some.ensures)
