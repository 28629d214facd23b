use Rattle.std.proofs.lemmas.Result.{err_from_is_err_and}
use Rattle.laws.proofs.Codes.{some_code}
use Rattle.frame.specs.Bytes.{data_of, bytes_of}
use Rattle.frame.specs.Messages.{decode}
use Rattle.judging.proofs.Faults.{misfitted}
use Rattle.judging.proofs.rows.refusal_by_row.Goals as goal

pub returns-in_err-misfit : goal.returns-in_err-misfit
returns-in_err-misfit c =
    let a = c.args in
    let d = data_of a.«data».now in
    let p = err_from_is_err_and c.from_residual.result c.from_residual.ensures.1 in
    rw (p.1, p.2) (misfitted a.own a.priority d (decode (bytes_of d)) c.requires c.in_err-misfit.ensures (some_code c.in_err-misfit.field-0.0))
