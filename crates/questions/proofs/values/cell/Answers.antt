-- `questions::values::cell` meets its contract. Assumes nothing.
use Prim.Native.Nat.{ℕ, ◌+◌, ◌<◌}
use mathlib.Core.Path.{◌≡◌, sym, ap, ◌∙◌}
use mathlib.Core.Bool.{Bool, true}
use lib.Dec.{ltb}
use borrow.Author.Tests.{ltb-true}
use native.Mathlib.Omega.{arith}
use Rattle.kinds.specs.Types.{extent_of}
use Rattle.places.specs.Places.{cell_place}
use Rattle.shape.specs.Layout.{place_at}
use Rattle.shape.specs.Head.{kind_in}
use Rattle.questions.specs.Replies.{answer_at, reply_as}
use Rattle.questions.proofs.Extents.{few-cells}
use Rattle.questions.proofs.Celling.{cell_there, no_cell_there}
use mathlib.Core.List.{[]}
use Rattle.questions.specs.Question.{cell}
use Rattle.questions.proofs.Replying.{both_of, handed_on, refused_before, found_replies}
use Rattle.questions.proofs.values.cell.Goals as goal

-- the test of a cell, at the type that was looked up
has : (kind location : ℕ) {found : ℕ} {yes : Bool} → found ≡ kind → yes ≡ ltb location (extent_of found).cells → yes ≡ true → ltb location (extent_of kind).cells ≡ true
has kind location k h y = ap (λ (t : ℕ). ltb location (extent_of t).cells) (sym k) ∙ sym h ∙ y

-- a type with such a cell has it among its first 256
small : (kind location : ℕ) {found : ℕ} {yes : Bool} → found ≡ kind → yes ≡ ltb location (extent_of found).cells → yes ≡ true → location < 256
small kind location k h y = omega (arith, few-cells kind, ltb-true location (extent_of kind).cells (has kind location k h y))

pub returns-in_err-slot : goal.returns-in_err-slot
returns-in_err-slot c = rw (handed_on c.from_residual.result c.from_residual.ensures.1) (both_of (refused_before _ _ (cell c.args.location.0) [] c.module_asked.ensures.value c.in_err-slot.was)).0

pub overflow_add-place : goal.overflow_add-place
overflow_add-place c = omega (arith, small (kind_in c.args.picture.now c.in_ok-slot.slot) c.args.location.0 c.kind_in.ensures c.has_cell.ensures c.if-has_cell.true, c.first_cell.ensures)

pub told_at-requires : goal.told_at-requires
told_at-requires c =
    let found = c.in_ok-slot.ensures.found in
    omega (arith, small (kind_in c.args.picture.now c.in_ok-slot.slot) c.args.location.0 c.kind_in.ensures c.has_cell.ensures c.if-has_cell.true, c.place_at.ensures, c.first_cell.ensures)

pub returns-then-has_cell : goal.returns-then-has_cell
unfolding reply_as
returns-then-has_cell c =
    let location = c.args.location.0 in
    let b = c.args.picture.now in
    let s = c.in_ok-slot.slot in
    let place : c.first_cell.result + location ≡ cell_place (kind_in b s) location = omega (arith, c.first_cell.ensures) in
    c.told_at.ensures
    ∙ ap (answer_at b) (c.place_at.ensures ∙ ap (place_at s) place)
    ∙ cell_there b s (kind_in b s) location (has (kind_in b s) location c.kind_in.ensures c.has_cell.ensures c.if-has_cell.true)
    ∙ (both_of (found_replies _ _ (cell location) [] c.module_asked.ensures.value c.in_ok-slot.was)).0

pub returns-else-has_cell : goal.returns-else-has_cell
unfolding reply_as
returns-else-has_cell c =
    let location = c.args.location.0 in
    let b = c.args.picture.now in
    let s = c.in_ok-slot.slot in
    no_cell_there b s (kind_in b s) location (ap (λ (k : ℕ). ltb location (extent_of k).cells) (sym c.kind_in.ensures) ∙ sym c.has_cell.ensures ∙ c.if-has_cell.false)
    ∙ (both_of (found_replies _ _ (cell location) [] c.module_asked.ensures.value c.in_ok-slot.was)).0
