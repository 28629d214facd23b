-- `sight::laying::put_four` meets its contract. Assumes nothing.
use Rattle.sight.proofs.Laid.{four_stored}
use Rattle.std.proofs.Common.{arith, length-set, rules}
use Rattle.sight.proofs.laying.put_four.Goals as goal

pub bounds-s-at-2 : goal.bounds-s-at-2
bounds-s-at-2 c = simp length-set (omega arith)

pub bounds-s-at-3 : goal.bounds-s-at-3
bounds-s-at-3 c = simp length-set (omega arith)

pub bounds-s-at-4 : goal.bounds-s-at-4
bounds-s-at-4 c = simp length-set (omega arith)

pub returns : goal.returns
returns c = four_stored c.args.s.now c.args.at c.args.a c.args.b c.args.c c.args.d
