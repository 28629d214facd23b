-- `plan::judges::right_in` meets its contract. Assumes nothing.
use borrow.Author.Rules.{rules}
use mathlib.Core.Path.{ap, ◌∙◌}
use mathlib.Core.List.{List}
use Prim.Native.Nat.{ℕ}
use Rattle.reads.specs.Judging.{right_plan}
use Rattle.plan.proofs.Replying.{memory_inside, memory_row}
use Rattle.plan.proofs.judges.right_in.Goals as goal

pub right_among-requires : goal.right_among-requires
right_among-requires c =
    let a = c.args in
    (memory_inside a.picture.now a.slot (search rules) (search rules) c.memory_at-at.ensures c.cells_in-cells.ensures).0

pub returns : goal.returns
returns c =
    let a = c.args in
    c.right_among.ensures
    ∙ ap (λ (row : List ℕ). right_plan row a.starts.now) (memory_row a.picture.now a.slot c.memory_at-at.ensures c.cells_in-cells.ensures)
