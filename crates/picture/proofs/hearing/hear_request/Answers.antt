use Rattle.std.proofs.lemmas.Result.{err_from_is_err_and}
use Rattle.laws.proofs.Codes.{some_code}
use Rattle.std.proofs.Common.{refl}
use Rattle.picture.proofs.Frames.{unhanded, handed_is, request_refused, request_heard}
use Rattle.picture.proofs.hearing.hear_request.Goals as goal

pub returns-in_err-handed : goal.returns-in_err-handed
returns-in_err-handed c =
    let a = c.args in
    let p = err_from_is_err_and c.from_residual.result c.from_residual.ensures.1 in
    let both = unhanded a.picture.now a.slot a.identifier a.remote a.«data».now a.kind c.requires.size_in_bounds.1 c.in_err-handed.ensures (some_code c.in_err-handed.field-0.0) in
    record { value = rw (p.1, p.2) both.0; picture_after = both.1 }

pub returns-in_err-request_refusal : goal.returns-in_err-request_refusal
returns-in_err-request_refusal c =
    let a = c.args in
    let from = c.from_residual-in_err-request_refusal in
    let p = err_from_is_err_and from.result from.ensures.1 in
    let handed = handed_is a.picture.now a.slot a.identifier a.remote a.«data».now a.kind c.requires.size_in_bounds.1 c.in_ok-handed.ensures in
    let both = request_refused a.picture.now a.slot a.identifier a.remote a.«data».now a.kind c.requires.size_in_bounds.1 c.requires.data_value.0 handed c.requires.data_value.1 _ c.in_err-request_refusal.ensures (some_code c.in_err-request_refusal.field-0.0) in
    record { value = rw (p.1, p.2) both.0; picture_after = both.1 }

pub returns : goal.returns
returns c =
    let a = c.args in
    let handed = handed_is a.picture.now a.slot a.identifier a.remote a.«data».now a.kind c.requires.size_in_bounds.1 c.in_ok-handed.ensures in
    let both = request_heard a.picture.now a.slot a.identifier a.remote a.«data».now a.kind c.requires.size_in_bounds.1 c.requires.data_value.0 handed c.requires.data_value.1 c.in_ok-request_refusal.ensures c.requires.size_in_bounds.0 _ c.pass.ensures in
    record { value = both.0; picture_after = both.1 }
