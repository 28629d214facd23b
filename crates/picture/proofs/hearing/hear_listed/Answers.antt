use Rattle.std.proofs.lemmas.Result.{err_from_is_err_and}
use Rattle.laws.proofs.Codes.{some_code}
use borrow.Author.Rules.{rules}
use Rattle.picture.proofs.Frames.{unhanded, handed_is, form_passed, form_refused}
use Rattle.picture.proofs.hearing.hear_listed.Goals as goal

pub returns-in_err-handed : goal.returns-in_err-handed
returns-in_err-handed c =
    let a = c.args in
    let p = err_from_is_err_and c.from_residual.result c.from_residual.ensures.1 in
    let r = unhanded a.picture.now a.slot a.identifier a.remote a.«data».now _ c.kind_in-kind.ensures c.in_err-handed.ensures (some_code c.in_err-handed.field-0.0) in
    record { value = rw (p.1, p.2) r.0; picture_after = r.1 }

pub returns-then-not-is_frame : goal.returns-then-not-is_frame
returns-then-not-is_frame c =
    let a = c.args in
    let handed = handed_is a.picture.now a.slot a.identifier a.remote a.«data».now _ c.kind_in-kind.ensures c.in_ok-handed.ensures in
    let r = form_refused a.picture.now a.slot a.identifier a.remote a.«data».now _ c.kind_in-kind.ensures c.is_frame.ensures c.if-not-is_frame.true handed _ c.form_refusal.ensures in
    record { value = r.0; picture_after = r.1 }

pub hear_request-requires : goal.hear_request-requires
hear_request-requires c =
    let a = c.args in
    let passed = form_passed a.identifier a.remote a.«data».now c.is_frame.ensures c.if-not-is_frame.false in
    search rules

pub hear_type_frame-requires : goal.hear_type_frame-requires
hear_type_frame-requires c =
    let a = c.args in
    let passed = form_passed a.identifier a.remote a.«data».now c.is_frame.ensures c.if-not-is_frame.false in
    search rules

pub hear_other-requires : goal.hear_other-requires
hear_other-requires c =
    let a = c.args in
    let passed = form_passed a.identifier a.remote a.«data».now c.is_frame.ensures c.if-not-is_frame.false in
    search rules
