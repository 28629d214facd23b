-- `changes::leds::four_leds` meets its contract. Assumes nothing.
use Rattle.std.proofs.Common.{◌∙◌, arith, rules}
use Rattle.changes.proofs.Lanes.{lanes}
use Rattle.changes.proofs.leds.four_leds.Goals as goal

pub states-requires : goal.states-requires
states-requires c =
    let a = c.args in
    let l = lanes a.on a.slow a.fast (omega arith) a.from (omega arith) in
    rw (c.lanes.ensures, c.lanes-2.ensures, c.lanes-3.ensures, c.lanes-4.ensures) (l.small_on, l.small_slow, l.small_fast, l.below_fast)

pub returns : goal.returns
returns c =
    let a = c.args in
    c.states.ensures ∙ rw (c.lanes.ensures, c.lanes-2.ensures, c.lanes-3.ensures, c.lanes-4.ensures) (lanes a.on a.slow a.fast (omega arith) a.from (omega arith)).sum
