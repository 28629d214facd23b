-- `sight::arms::leds_set` meets its contract. Assumes nothing.
use Rattle.sight.proofs.Sight.{leds-set}
use Rattle.std.proofs.Common.{rules}
use Rattle.sight.proofs.arms.leds_set.Goals as goal

pub returns : goal.returns
returns c =
    let a = c.args in
    let t = c.if-data-ne4.false in
    leds-set a.bench.now a.address a.identifier c.requires.0 a.replies.now a.«data».now _ c.requires.1 t (rw (c.byte_at-3.ensures, c.byte_at-2.ensures, c.byte_at.ensures) at c.set_all.ensures)
