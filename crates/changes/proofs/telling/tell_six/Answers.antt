-- `changes::telling::tell_six` meets its contract. Assumes nothing.
use Rattle.std.proofs.Common.{[], ◌∷◌, arith, rules}
use Rattle.places.specs.Runs.{tells}
use Rattle.stores.specs.Stores.{put_at, written}
use Rattle.changes.proofs.Told.{written_also, has_room, left_alone, told_all}
use Rattle.changes.proofs.telling.tell_six.Goals as goal

pub returns-then-not-lies : goal.returns-then-not-lies
returns-then-not-lies c = left_alone _ _ _ c.lies.ensures c.if-not-lies.true

pub put_four-requires : goal.put_four-requires
put_four-requires c =
    let room = has_room _ _ _ 6 c.lies.ensures c.if-not-lies.false c.place_at-at.ensures c.save.auto.picture in
    omega (arith, room)

pub returns : goal.returns
unfolding written put_at
returns c =
    let a = c.args in
    let row = tells a.a ∷ tells a.b ∷ tells a.c ∷ tells a.d ∷ tells a.e ∷ tells a.f ∷ [] in
    let also = written_also c.save.new.picture c.place_at-at.result row in
    let six = also 5 1 _ _ (also 4 1 _ _ c.put_four.ensures c.put_pair.ensures) c.put_pair-2.ensures in
    told_all _ _ _ c.lies.ensures c.if-not-lies.false (omega arith) c.save.ensures c.place_at-at.ensures six c.step_on.ensures
