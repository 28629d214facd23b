use Rattle.std.proofs.Common.{refl, ap, Ok, Err}
use Rattle.std.proofs.lemmas.Result.{err_from_is_err_and}
use Rattle.laws.specs.Codes.{code_of}
use Rattle.taking.proofs.Given.{by-judged}
use Rattle.taking.proofs.taking.take_any.Goals as goal

pub returns-in_err-own : goal.returns-in_err-own
returns-in_err-own c =
    let a = c.args in
    let p = err_from_is_err_and c.from_residual.result c.from_residual.ensures.1 in
    let code = code_of c.in_err-own.field-0.0 in
    let both =
    by-judged a.bench.now a.«data».now a.replies.now a.identifier a.remote (Err code) (Err code) (Err code) a.bench.now a.replies.now c.requires
    (rw (← c.byte_at.ensures) c.in_err-own.ensures) refl (refl, (refl, refl)) in
    record { value = rw (p.1, p.2) both.0; bench_after = both.1.0; replies_after = both.1.1 }

pub returns-in-Some : goal.returns-in-Some
returns-in-Some c =
    let a = c.args in
    let both =
    by-judged a.bench.now a.«data».now a.replies.now a.identifier a.remote _ _ _ _ _ c.requires
    (rw (← c.byte_at.ensures) c.in_ok-own.ensures) (ap Ok c.in-Some.is) (c.give.ensures.value, (c.give.ensures.bench_after, c.give.ensures.replies_after)) in
    record { value = both.0; bench_after = both.1.0; replies_after = both.1.1 }

pub returns-in-None : goal.returns-in-None
returns-in-None c =
    let a = c.args in
    let both =
    by-judged a.bench.now a.«data».now a.replies.now a.identifier a.remote _ _ _ _ _ c.requires
    (rw (← c.byte_at.ensures) c.in_ok-own.ensures) (ap Ok c.in-None.is) (refl, (refl, refl)) in
    record { value = both.0; bench_after = both.1.0; replies_after = both.1.1 }
