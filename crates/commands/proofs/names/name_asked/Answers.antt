-- `commands::names::name_asked` meets its contract. Assumes nothing.
use Rattle.std.proofs.lemmas.Result.{err_from_is_err_and}
use Rattle.laws.proofs.Codes.{some_code}
use Rattle.std.proofs.Common.{refl, rules}
use Rattle.kinds.specs.Types.{low}
use Rattle.places.specs.Runs.{meaning_of}
use Rattle.commands.proofs.Rows.{every_module}
use Rattle.commands.proofs.Arms.{Arm, misfitted, at_fault, passed}
use Rattle.commands.proofs.names.name_asked.Goals as goal

arm : Arm every_module 0xEF 2 low
arm = record { some_bytes = refl; no_type = refl; rows = refl }

pub returns-in_err-formed : goal.returns-in_err-formed
returns-in_err-formed c =
    let p = err_from_is_err_and c.from_residual.result c.from_residual.ensures.1 in
    rw (p.1, p.2) (misfitted arm c.args.priority c.args.«data».now c.requires.0 c.requires.1 refl c.in_err-formed.ensures (some_code c.in_err-formed.field-0.0) refl)

pub returns-in_err-name_asked_fault : goal.returns-in_err-name_asked_fault
returns-in_err-name_asked_fault c =
    let e = rw (c.wide32.ensures, c.byte_at.ensures) at c.in_err-name_asked_fault.ensures in
    let p = err_from_is_err_and c.from_residual-in_err-name_asked_fault.result c.from_residual-in_err-name_asked_fault.ensures.1 in
    rw (p.1, p.2) (at_fault arm c.args.priority c.args.«data».now c.requires.0 c.requires.1 refl c.in_ok-formed.ensures e (some_code c.in_err-name_asked_fault.field-0.0) refl)

pub returns : goal.returns
unfolding meaning_of
returns c =
    let e = rw (c.wide32.ensures, c.byte_at.ensures) at c.in_ok-name_asked_fault.ensures in
    passed arm c.args.priority c.args.«data».now c.requires.0 c.requires.1 refl c.in_ok-formed.ensures refl e refl c.pass.ensures
