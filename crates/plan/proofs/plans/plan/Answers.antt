-- `plan::plans::plan` meets its contract. Assumes nothing.
use Prim.Native.Nat.{ℕ}
use mathlib.Core.Path.{ap, ◌∙◌}
use mathlib.Core.List.{List}
use lib.ListN.{length}
use Rattle.questions.proofs.Replying.{both_of, handed_on}
use Rattle.plan.specs.Replies.{row_at, as_entries, laid}
use Rattle.plan.proofs.Replying.{refused_before, found_says, memory_inside, memory_row, laid_done, laid-short, entries_fit, entries-short, entries-room}
use Rattle.plan.proofs.plans.plan.Goals as goal

pub returns-in_err-slot : goal.returns-in_err-slot
returns-in_err-slot c =
    let both = both_of (refused_before _ _ _ _ c.module_asked.ensures.value c.in_err-slot.was) in
    record { value = rw (handed_on c.from_residual.result c.from_residual.ensures.1) both.0; starts_after = both.1 }

pub fits-requires : goal.fits-requires
fits-requires c =
    let found = c.in_ok-slot.ensures.found in
    memory_inside c.args.picture.now c.in_ok-slot.slot found.0 found.1 c.memory_at-at.ensures c.cells_in-cells.ensures

pub write_entries-requires : goal.write_entries-requires
write_entries-requires c =
    let a = c.args in
    let found = c.in_ok-slot.ensures.found in
    let i = memory_inside a.picture.now c.in_ok-slot.slot found.0 found.1 c.memory_at-at.ensures c.cells_in-cells.ensures in
    (i.0, i.1, entries-room (row_at a.picture.now c.memory_at-at.result c.cells_in-cells.result) (length a.starts.now) c.fits.ensures c.if-fits.true)

pub returns-then-fits : goal.returns-then-fits
returns-then-fits c =
    let a = c.args in
    let row = row_at a.picture.now c.memory_at-at.result c.cells_in-cells.result in
    let fit = entries_fit row (length a.starts.now) c.fits.ensures c.if-fits.true in
    let both = both_of
    (laid_done as_entries row a.starts.now fit c.write_entries.ensures.value c.write_entries.ensures.starts_after
    ∙ ap (λ (r : List ℕ). laid as_entries r a.starts.now) (memory_row a.picture.now c.in_ok-slot.slot c.memory_at-at.ensures c.cells_in-cells.ensures)
    ∙ found_says _ _ _ _ c.module_asked.ensures.value c.in_ok-slot.was) in
    record { value = both.0; starts_after = both.1 }

pub returns-else-fits : goal.returns-else-fits
returns-else-fits c =
    let a = c.args in
    let row = row_at a.picture.now c.memory_at-at.result c.cells_in-cells.result in
    let short = entries-short row (length a.starts.now) c.fits.ensures c.if-fits.false in
    let both = both_of
    (laid-short as_entries row a.starts.now short
    ∙ ap (λ (r : List ℕ). laid as_entries r a.starts.now) (memory_row a.picture.now c.in_ok-slot.slot c.memory_at-at.ensures c.cells_in-cells.ensures)
    ∙ found_says _ _ _ _ c.module_asked.ensures.value c.in_ok-slot.was) in
    record { value = both.0; starts_after = both.1 }
