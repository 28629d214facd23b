-- `questions::rows::memory_row` meets its contract. Assumes nothing.
use native.Mathlib.Omega.{arith}
use mathlib.Core.Path.{refl, ◌∙◌}
use Rattle.places.specs.Places.{cell_row}
use Rattle.shape.specs.Head.{kind_in}
use Rattle.questions.specs.Question.{memory_row}
use Rattle.questions.specs.Fills.{numbers_fill}
use Rattle.questions.specs.Replies.{reply_as}
use Rattle.questions.proofs.Replying.{both_of, handed_on, refused_before, found_replies}
use Rattle.questions.proofs.Extents.{few-cells}
use Rattle.questions.proofs.Filling.{fill-short, fill_done, row_numbers}
use Rattle.questions.proofs.rows.memory_row.Goals as goal

pub returns-in_err-slot : goal.returns-in_err-slot
returns-in_err-slot c =
    let both = both_of (refused_before _ _ memory_row _ c.module_asked.ensures.value c.in_err-slot.was) in
    record { value = rw (handed_on c.from_residual.result c.from_residual.ensures.1) both.0; out_after = both.1 }

pub returns-then-out-n : goal.returns-then-out-n
unfolding reply_as numbers_fill
returns-then-out-n c =
    let both = both_of (fill-short _ _ _ _ c.cells_in-n.ensures c.if-out-n.true ∙ found_replies _ _ memory_row _ c.module_asked.ensures.value c.in_ok-slot.was) in
    record { value = both.0; out_after = both.1 }

pub fill_numbers-requires : goal.fill_numbers-requires
fill_numbers-requires c = let found = c.in_ok-slot.ensures.found in omega (arith, few-cells (kind_in c.args.picture.now c.in_ok-slot.slot))

pub returns : goal.returns
unfolding reply_as numbers_fill
returns c =
    let b = c.args.picture.now in
    let s = c.in_ok-slot.slot in
    let start = rw c.first_cell.ensures at c.place_at-at.ensures in
    let filled = fill_done _ _ _ _ c.cells_in-n.ensures c.if-out-n.false refl (row_numbers b s (cell_row (kind_in b s)) start _ _ c.fill_numbers.ensures) in
    let both = both_of (filled ∙ found_replies _ _ memory_row _ c.module_asked.ensures.value c.in_ok-slot.was) in
    record { value = both.0; out_after = both.1 }
