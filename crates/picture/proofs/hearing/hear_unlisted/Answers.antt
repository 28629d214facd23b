use Rattle.std.proofs.lemmas.Result.{err_from_is_err_and}
use Rattle.laws.proofs.Codes.{some_code}
use Rattle.std.proofs.Common.{refl}
use Rattle.picture.proofs.Frames.{newcomer_refused, newcomer_request, newcomer_fits, newcomer_heard}
use Rattle.picture.proofs.hearing.hear_unlisted.Goals as goal

pub returns-in_err-refusal_unlisted : goal.returns-in_err-refusal_unlisted
returns-in_err-refusal_unlisted c =
    let a = c.args in
    let p = err_from_is_err_and c.from_residual.result c.from_residual.ensures.1 in
    let both = newcomer_refused a.picture.now a.identifier a.remote a.«data».now _ c.in_err-refusal_unlisted.ensures (some_code c.in_err-refusal_unlisted.field-0.0) in
    record { value = rw (p.1, p.2) both.0; picture_after = both.1 }

pub returns-then-remote-eq1 : goal.returns-then-remote-eq1
returns-then-remote-eq1 c =
    let a = c.args in
    let both = newcomer_request a.picture.now a.identifier a.remote a.«data».now _ c.in_ok-refusal_unlisted.ensures refl c.if-remote-eq1.true c.requires _ c.pass.ensures in
    record { value = both.0; picture_after = both.1 }

pub enter_new-requires : goal.enter_new-requires
enter_new-requires c =
    let a = c.args in
    let fits = newcomer_fits a.picture.now a.identifier a.remote a.«data».now _ c.in_ok-refusal_unlisted.ensures refl c.if-remote-eq1.false in
    record { size_in_bounds = (c.requires, fits.0); data_len = fits.1 }

pub returns : goal.returns
returns c =
    let a = c.args in
    let both = newcomer_heard a.picture.now a.identifier a.remote a.«data».now _ c.in_ok-refusal_unlisted.ensures refl c.if-remote-eq1.false _ _ c.enter_new.ensures.value c.enter_new.ensures.picture_after in
    record { value = both.0; picture_after = both.1 }
