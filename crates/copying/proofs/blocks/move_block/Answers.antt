-- `copying::blocks::move_block` meets its contract. What the last calls ask lies too far back for a search, so that their facts are listed. Assumes nothing.
use Rattle.copying.proofs.Runs.{copied_on}
use borrow.Author.Rules.{rules}
use native.Mathlib.Omega.{arith}
use Rattle.copying.proofs.blocks.move_block.Goals as goal

pub overflow_add-to-6 : goal.overflow_add-to-6
overflow_add-to-6 c = omega (arith, c)

pub overflow_add-from-7 : goal.overflow_add-from-7
overflow_add-from-7 c = omega (arith, c)

pub overflow_add-to-7 : goal.overflow_add-to-7
overflow_add-to-7 c = omega (arith, c)

pub move_sixteen-requires-8 : goal.move_sixteen-requires-8
move_sixteen-requires-8 c = omega (arith, c, c)

pub returns : goal.returns
returns c =
    let a = c.args in
    let pre = c.requires in
    let on = copied_on a.s.now a.from a.out.now a.to in
    let e2 = on 16 16 _ _ (omega arith) c.move_sixteen.ensures c.move_sixteen-2.ensures in
    let e3 = on 32 16 _ _ (omega arith) e2 c.move_sixteen-3.ensures in
    let e4 = on 48 16 _ _ (omega arith) e3 c.move_sixteen-4.ensures in
    let e5 = on 64 16 _ _ (omega arith) e4 c.move_sixteen-5.ensures in
    let e6 = on 80 16 _ _ (omega arith) e5 c.move_sixteen-6.ensures in
    let e7 = on 96 16 _ _ (omega arith) e6 c.move_sixteen-7.ensures in
    on 112 16 _ _ (omega arith) e7 c.move_sixteen-8.ensures
