-- `questions::names::name_bytes` meets its contract. Assumes nothing.
use native.Mathlib.Omega.{arith}
use mathlib.Core.Path.{◌∙◌}
use Rattle.laws.specs.Limits.{AllBytes}
use Rattle.questions.proofs.Runs.{front_filled}
use Rattle.questions.specs.Question.{name_bytes}
use Rattle.questions.proofs.Replying.{both_of, handed_on, refused_before, found_replies}
use Rattle.questions.proofs.Naming.{when_found, when_refused, no_bytes, bytes_short, bytes_done}
use Rattle.questions.proofs.names.name_bytes.Goals as goal

pub returns-in_err-slot : goal.returns-in_err-slot
returns-in_err-slot c =
    let both = both_of (refused_before _ _ (name_bytes _) _ c.module_asked.ensures.value c.in_err-slot.was) in
    record { value = rw (handed_on c.from_residual.result c.from_residual.ensures.1) both.0; out_after = both.1 }

pub returns-in_err-at : goal.returns-in_err-at
returns-in_err-at c =
    let none = when_refused _ _ _ c.name_at.ensures.value c.in_err-at.was in
    let both = both_of (no_bytes _ _ _ _ _ none.0 none.1 ∙ found_replies _ _ (name_bytes _) _ c.module_asked.ensures.value c.in_ok-slot.was) in
    record { value = rw (handed_on c.from_residual-in_err-at.result c.from_residual-in_err-at.ensures.1) both.0; out_after = both.1 }

pub returns-then-out-n : goal.returns-then-out-n
returns-then-out-n c =
    let has = when_found _ _ _ c.name_at.ensures.value c.in_ok-at.was in
    let both = both_of (bytes_short _ _ _ _ _ has.0 (omega arith) c.if-out-n.true ∙ found_replies _ _ (name_bytes _) _ c.module_asked.ensures.value c.in_ok-slot.was) in
    record { value = both.0; out_after = both.1 }

pub returns : goal.returns
returns c =
    let has = when_found _ _ _ c.name_at.ensures.value c.in_ok-at.was in
    let a = c.args in
    let bytes : AllBytes a.picture.now = λ i. omega (arith, c.type_inv.picture i) in
    let copied = front_filled a.picture.now c.in_ok-at.at a.out.now 32 c.in_ok-at.ensures.inside c.if-out-n.false c.copy_few.ensures in
    let filled = bytes_done _ _ _ _ _ has.0 has.1 c.heard_from.ensures (omega arith) c.if-out-n.false bytes copied in
    let both = both_of (filled ∙ found_replies _ _ (name_bytes _) _ c.module_asked.ensures.value c.in_ok-slot.was) in
    record { value = both.0; out_after = both.1 }
