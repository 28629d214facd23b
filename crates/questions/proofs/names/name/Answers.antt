-- `questions::names::name` meets its contract. Assumes nothing.
use native.Mathlib.Omega.{arith}
use mathlib.Core.Path.{◌∙◌}
use Rattle.questions.specs.Question.{name_row}
use Rattle.questions.proofs.Replying.{both_of, handed_on, refused_before, found_replies}
use Rattle.questions.proofs.Naming.{when_found, when_refused, no_row, row-short, row_done}
use Rattle.questions.proofs.names.name.Goals as goal

pub returns-in_err-slot : goal.returns-in_err-slot
returns-in_err-slot c =
    let both = both_of (refused_before _ _ (name_row _) _ c.module_asked.ensures.value c.in_err-slot.was) in
    record { value = rw (handed_on c.from_residual.result c.from_residual.ensures.1) both.0; row_after = both.1 }

pub returns-in_err-at : goal.returns-in_err-at
returns-in_err-at c =
    let none = when_refused _ _ _ c.name_at.ensures.value c.in_err-at.was in
    let both = both_of (no_row _ _ _ _ _ none.0 none.1 ∙ found_replies _ _ (name_row _) _ c.module_asked.ensures.value c.in_ok-slot.was) in
    record { value = rw (handed_on c.from_residual-in_err-at.result c.from_residual-in_err-at.ensures.1) both.0; row_after = both.1 }

pub returns-then-row-n : goal.returns-then-row-n
returns-then-row-n c =
    let has = when_found _ _ _ c.name_at.ensures.value c.in_ok-at.was in
    let both = both_of (row-short _ _ _ _ _ has.0 (omega arith) c.if-row-n.true ∙ found_replies _ _ (name_row _) _ c.module_asked.ensures.value c.in_ok-slot.was) in
    record { value = both.0; row_after = both.1 }

pub returns : goal.returns
returns c =
    let has = when_found _ _ _ c.name_at.ensures.value c.in_ok-at.was in
    let filled = row_done _ _ _ _ _ has.0 has.1 c.heard_from.ensures (omega arith) c.if-row-n.false c.fill_numbers.ensures in
    let both = both_of (filled ∙ found_replies _ _ (name_row _) _ c.module_asked.ensures.value c.in_ok-slot.was) in
    record { value = both.0; row_after = both.1 }
