-- `copying::blocks::move_sixteen` meets its contract. Assumes nothing.
use Rattle.copying.proofs.Runs.{copied_on}
use borrow.Author.Rules.{rules}
use native.Mathlib.Omega.{arith}
use Rattle.copying.proofs.blocks.move_sixteen.Goals as goal

pub returns : goal.returns
returns c =
    let a = c.args in
    copied_on a.s.now a.from a.out.now a.to 8 8 _ _ (omega (arith, c.requires))
    (rw c.eight_at-low.ensures.0 at c.store_eight.ensures)
    (rw c.eight_at-high.ensures.0 at c.store_eight-2.ensures)
