use Rattle.std.proofs.lemmas.Result.{err_from_is_err_and}
use Rattle.laws.proofs.Codes.{some_code}
use Rattle.std.proofs.Common.{refl}
use Rattle.picture.proofs.Frames.{type_refused, type_fit, type_heard}
use Rattle.picture.proofs.hearing.hear_type.Goals as goal

pub returns-in_err-untyped_refusal : goal.returns-in_err-untyped_refusal
returns-in_err-untyped_refusal c =
    let a = c.args in
    let p = err_from_is_err_and c.from_residual.result c.from_residual.ensures.1 in
    let both = type_refused a.picture.now a.slot a.identifier a.remote a.«data».now a.kind c.requires.size_in_bounds.2 c.requires.handed_types_value.1 c.requires.handed_types_value.0 c.requires.handed_types_value.2 c.requires.handed_types_value.3 _ c.in_err-untyped_refusal.ensures (some_code c.in_err-untyped_refusal.field-0.0) in
    record { value = rw (p.1, p.2) both.0; picture_after = both.1 }

pub enter_again-requires : goal.enter_again-requires
enter_again-requires c =
    let a = c.args in
    let fit = type_fit a.picture.now a.slot a.identifier a.remote a.«data».now a.kind c.requires.size_in_bounds.2 c.requires.handed_types_value.1 c.requires.handed_types_value.0 c.requires.handed_types_value.2 c.requires.handed_types_value.3 _ c.in_ok-untyped_refusal.ensures refl in
    record { size_in_bounds = (c.requires.size_in_bounds.0, c.requires.size_in_bounds.1, fit.0); data_len = fit.1 }

pub returns : goal.returns
returns c =
    let a = c.args in
    let both = type_heard a.picture.now a.slot a.identifier a.remote a.«data».now a.kind c.requires.size_in_bounds.2 c.requires.handed_types_value.1 c.requires.handed_types_value.0 c.requires.handed_types_value.2 c.requires.handed_types_value.3 _ c.in_ok-untyped_refusal.ensures refl c.requires.size_in_bounds.1 _ c.enter_again.ensures in
    record { value = both.0; picture_after = both.1 }
