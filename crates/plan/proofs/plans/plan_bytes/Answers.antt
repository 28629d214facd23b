-- `plan::plans::plan_bytes` meets its contract. Assumes nothing.
use Prim.Native.Nat.{ℕ}
use mathlib.Core.Path.{ap, ◌∙◌}
use mathlib.Core.List.{List}
use Rattle.questions.specs.Statements.{in_bytes}
use Rattle.questions.proofs.Replying.{both_of, handed_on}
use Rattle.plan.specs.Replies.{row_at, laid}
use Rattle.plan.proofs.Replying.{refused_before, found_says, memory_inside, memory_row, laid_done, laid-short, bytes_fit, bytes_short, bytes_room}
use Rattle.plan.proofs.plans.plan_bytes.Goals as goal

pub returns-in_err-slot : goal.returns-in_err-slot
returns-in_err-slot c =
    let both = both_of (refused_before _ _ _ _ c.module_asked.ensures.value c.in_err-slot.was) in
    record { value = rw (handed_on c.from_residual.result c.from_residual.ensures.1) both.0; out_after = both.1 }

pub fits-requires : goal.fits-requires
fits-requires c =
    let found = c.in_ok-slot.ensures.found in
    memory_inside c.args.picture.now c.in_ok-slot.slot found.0 found.1 c.memory_at-at.ensures c.cells_in-cells.ensures

pub write_bytes-requires : goal.write_bytes-requires
write_bytes-requires c =
    let a = c.args in
    let found = c.in_ok-slot.ensures.found in
    let i = memory_inside a.picture.now c.in_ok-slot.slot found.0 found.1 c.memory_at-at.ensures c.cells_in-cells.ensures in
    (i.0, i.1, bytes_room (row_at a.picture.now c.memory_at-at.result c.cells_in-cells.result) a.out.now c.fits.ensures c.if-fits.true)

pub returns-then-fits : goal.returns-then-fits
returns-then-fits c =
    let a = c.args in
    let row = row_at a.picture.now c.memory_at-at.result c.cells_in-cells.result in
    let fit = bytes_fit row a.out.now c.fits.ensures c.if-fits.true in
    let both = both_of
    (laid_done in_bytes row a.out.now fit c.write_bytes.ensures.value c.write_bytes.ensures.out_after
    ∙ ap (λ (r : List ℕ). laid in_bytes r a.out.now) (memory_row a.picture.now c.in_ok-slot.slot c.memory_at-at.ensures c.cells_in-cells.ensures)
    ∙ found_says _ _ _ _ c.module_asked.ensures.value c.in_ok-slot.was) in
    record { value = both.0; out_after = both.1 }

pub returns-else-fits : goal.returns-else-fits
returns-else-fits c =
    let a = c.args in
    let row = row_at a.picture.now c.memory_at-at.result c.cells_in-cells.result in
    let short = bytes_short row a.out.now c.fits.ensures c.if-fits.false in
    let both = both_of
    (laid-short in_bytes row a.out.now short
    ∙ ap (λ (r : List ℕ). laid in_bytes r a.out.now) (memory_row a.picture.now c.in_ok-slot.slot c.memory_at-at.ensures c.cells_in-cells.ensures)
    ∙ found_says _ _ _ _ c.module_asked.ensures.value c.in_ok-slot.was) in
    record { value = both.0; out_after = both.1 }
