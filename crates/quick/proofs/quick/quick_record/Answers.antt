-- `quick::quick::quick_record` meets its contract. Assumes nothing.
use Prim.Native.Nat.{◌+◌, ◌-◌, ◌/◌, ◌%◌, ◌≤◌}
use mathlib.Core.Path.{refl, ◌∙◌}
use native.Mathlib.Omega.{arith}
use lib.ListN.{length, get_or}
use Rattle.recording.specs.Limits.{most_gap, gap_groups, most_count, count_groups}
use Rattle.recording.proofs.Ranges.{gap_groups_lem}
use Rattle.recording.proofs.Entries.{fits_at, headed, head-room, counted}
use Rattle.quick.proofs.quick.quick_record.Goals as goal
use Rattle.quick.proofs.quick.quick_record.Goals.{In_ok-word}

-- where the gap and the word were read, the count and the data have room
room : (c : In_ok-word) → c.in_ok-word.count_at + (count_groups + most_count) ≤ length c.args.s.now
room c =
    let g = c.in_ok-gap in
    let w = c.in_ok-word in
    head-room c.args.s.now c.args.at g.gap w.word g.word_at w.count_at g.ensures w.ensures c.requires

pub short_number-requires-clause-at_in_bounds : goal.short_number-requires-clause-at_in_bounds
short_number-requires-clause-at_in_bounds c =
    let a = c.args in
    let g = c.in_ok-gap in
    let fits = fits_at a.s.now a.at most_gap gap_groups gap_groups_lem g.gap (g.word_at - a.at) g.ensures refl in
    omega arith

pub bounds-s-count_at : goal.bounds-s-count_at
bounds-s-count_at c = omega (arith, room (goal.at.bounds-s-count_at c).In_ok-word)

pub overflow_add-start : goal.overflow_add-start
overflow_add-start c = omega (arith, room (goal.at.overflow_add-start c).In_ok-word)

pub overflow_add-result : goal.overflow_add-result
overflow_add-result c = omega (arith, room (goal.at.overflow_add-result c).In_ok-word)

pub returns : goal.returns
returns c =
    let s = c.args.s.now in
    let g = c.in_ok-gap in
    let w = c.in_ok-word in
    counted s g.gap (w.word / 2) (w.word % 2) w.count_at (get_or s w.count_at 0) (room (goal.at.returns c).In_ok-word) refl (omega arith)
    ∙ headed s c.args.at g.gap w.word g.word_at w.count_at g.ensures w.ensures (omega (arith, c.requires))
