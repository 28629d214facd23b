-- `changes::telling::tell_leds` meets its contract. Assumes nothing.
use Rattle.std.proofs.Common.{ℕ, ◌+◌, List, [], ◌∷◌, ◌∙◌, arith, rules}
use Rattle.laws.specs.Tab.{tab}
use Rattle.places.specs.Runs.{Saying, tells, led_by}
use Rattle.stores.proofs.Within.{stored_in_lem}
use Rattle.changes.proofs.Lanes.{leds-written}
use Rattle.changes.proofs.Told.{written_also, has_room, left_alone, told_all}
use Rattle.changes.proofs.telling.tell_leds.Goals as goal

pub returns-then-not-lies : goal.returns-then-not-lies
unfolding tab
returns-then-not-lies c = left_alone _ _ _ c.lies.ensures c.if-not-lies.true

pub returns : goal.returns
unfolding tab
returns c =
    let a = c.args in
    let b = c.save.new.picture in
    let at = c.place_at-at.result in
    let room = has_room _ _ 2 8 c.lies.ensures c.if-not-lies.false c.place_at-at.ensures c.save.auto.picture in
    let led : ℕ → Saying = λ i. tells (led_by a.on a.slow a.fast i) in
    let row : List Saying = led 0 ∷ led 1 ∷ led 2 ∷ led 3 ∷ led 4 ∷ led 5 ∷ led 6 ∷ led 7 ∷ [] in
    let one = c.put_row.ensures ∙ stored_in_lem b at _ (omega (arith, room)) in
    let two = c.put_row-2.ensures ∙ stored_in_lem c.put_row.new.s (at + 8) _ (omega (arith, room, c.put_row.auto.s)) in
    let eight = written_also b at row 4 4 (leds-written b at a.on a.slow a.fast 0 c.four_bytes-low.ensures one) (leds-written _ (at + 8) a.on a.slow a.fast 4 c.four_bytes-high.ensures two) in
    told_all _ _ _ c.lies.ensures c.if-not-lies.false (omega arith) c.save.ensures c.place_at-at.ensures eight c.step_on.ensures
