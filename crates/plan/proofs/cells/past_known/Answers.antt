-- `plan::cells::past_known` meets its contract. Assumes nothing.
use Prim.Native.Nat.{◌+◌, ◌*◌}
use mathlib.Core.Path.{refl, ◌∙◌}
use native.Mathlib.Omega.{arith}
use Rattle.questions.specs.Fills.{value_at}
use Rattle.plan.specs.Replies.{row_at}
use Rattle.plan.proofs.CellRow.{none_here}
use Rattle.plan.proofs.Passing.{next_between, next_again, four_passed}
use Rattle.plan.proofs.cells.past_known.Goals as goal

pub returns-then-three_told : goal.returns-then-three_told
returns-then-three_told c =
    let a = c.args in
    record { lower_bound = (omega arith, omega arith); cells_value = four_passed a.picture.now a.at a.cells (λ i. omega (arith, c.type_inv.picture i)) a.cell (omega arith) c.requires.2 (c.three_told.ensures c.if-three_told.true) }

pub returns : goal.returns
returns c =
    let a = c.args in
    let between = next_between a.picture.now a.at a.cells (a.cell + 1) (omega arith) c.next_unknown.ensures in record { lower_bound = (omega (arith, between.0), omega (arith, between.1)); cells_value = none_here a.picture.now a.at a.cells a.cell (value_at a.picture.now (a.at + 2 * a.cell)) (omega arith) refl c.requires.2 ∙ next_again (row_at a.picture.now a.at a.cells) (a.cell + 1) c.next_unknown.result c.next_unknown.ensures }
