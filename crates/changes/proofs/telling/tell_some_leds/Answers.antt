-- `changes::telling::tell_some_leds` meets its contract. Assumes nothing.
use Rattle.std.proofs.Common.{◌∙◌, arith, rules}
use Rattle.laws.specs.Tab.{tab}
use Rattle.places.specs.Runs.{led_if}
use Rattle.stores.specs.Stores.{written}
use Rattle.changes.proofs.Told.{written_also, has_room, left_alone, told_all}
use Rattle.changes.proofs.telling.tell_some_leds.Goals as goal

pub returns-then-not-lies : goal.returns-then-not-lies
unfolding tab
returns-then-not-lies c = left_alone _ _ _ c.lies.ensures c.if-not-lies.true

pub put_some-requires : goal.put_some-requires
put_some-requires c =
    let room = has_room _ _ 2 8 c.lies.ensures c.if-not-lies.false c.place_at-at.ensures c.save.auto.picture in
    (omega (arith, room), omega arith)

pub put_some-requires-2 : goal.put_some-requires-2
put_some-requires-2 c =
    let room = has_room _ _ 2 8 c.lies.ensures c.if-not-lies.false c.place_at-at.ensures (c.put_some.auto.picture ∙ c.save.auto.picture) in
    (omega (arith, room), omega arith)

pub returns : goal.returns
unfolding written tab
returns c =
    let a = c.args in
    let row = tab 8 (led_if a.mask a.state) in
    let eight = written_also c.save.new.picture c.place_at-at.result row 4 4 c.put_some.ensures c.put_some-2.ensures in
    told_all _ _ _ c.lies.ensures c.if-not-lies.false (omega arith) c.save.ensures c.place_at-at.ensures eight c.step_on.ensures
