-- `changes::telling::tell_one` meets its contract. Assumes nothing.
use Rattle.std.proofs.Common.{arith, rules}
use Rattle.stores.specs.Stores.{put_at, written}
use Rattle.changes.proofs.Told.{left_alone, told_all}
use Rattle.changes.proofs.telling.tell_one.Goals as goal

pub returns-then-not-lies : goal.returns-then-not-lies
returns-then-not-lies c = left_alone _ _ _ c.lies.ensures c.if-not-lies.true

pub returns : goal.returns
unfolding written put_at
returns c = told_all _ _ _ c.lies.ensures c.if-not-lies.false (omega arith) c.save.ensures c.place_at.ensures c.put_pair.ensures c.step_on.ensures
