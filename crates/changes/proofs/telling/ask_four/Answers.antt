-- `changes::telling::ask_four` meets its contract. Assumes nothing.
use Rattle.std.proofs.Common.{arith, rules}
use Rattle.changes.proofs.Told.{has_room, left_alone, told_all}
use Rattle.changes.proofs.telling.ask_four.Goals as goal

pub returns-then-not-lies : goal.returns-then-not-lies
returns-then-not-lies c = left_alone _ _ _ c.lies.ensures c.if-not-lies.true

pub put_unknown-requires : goal.put_unknown-requires
put_unknown-requires c = has_room _ _ _ 4 c.lies.ensures c.if-not-lies.false c.place_at.ensures c.save.auto.picture

pub returns : goal.returns
returns c = told_all _ _ _ c.lies.ensures c.if-not-lies.false (omega arith) c.save.ensures c.place_at.ensures c.put_unknown.ensures c.step_on.ensures
