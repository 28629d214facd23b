-- `changes::telling::tell_build` meets its contract. Assumes nothing.
use Rattle.std.proofs.Common.{refl, arith, rules}
use Rattle.changes.proofs.Told.{left_alone, told_all}
use Rattle.changes.proofs.telling.tell_build.Goals as goal

pub returns-then-not-lies : goal.returns-then-not-lies
returns-then-not-lies c = left_alone _ _ _ c.lies.ensures c.if-not-lies.true

pub returns : goal.returns
returns c = told_all _ _ _ c.lies.ensures c.if-not-lies.false (omega arith) c.save.ensures refl c.put_build.ensures c.step_on.ensures
