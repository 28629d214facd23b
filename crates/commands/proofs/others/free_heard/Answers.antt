-- `commands::others::free_heard` meets its contract. Assumes nothing.
use Rattle.std.proofs.lemmas.Result.{err_from_is_err_and}
use Rattle.laws.proofs.Codes.{some_code}
use Rattle.std.proofs.Common.{refl, rules}
use Rattle.places.specs.Runs.{meaning_of}
use Rattle.commands.proofs.Arms.{misfitted, passed}
use Rattle.commands.proofs.Families.{free_arm, free_field, free-run}
use Rattle.commands.proofs.others.free_heard.Goals as goal

pub returns-in_err-formed : goal.returns-in_err-formed
returns-in_err-formed c =
    let arm = free_arm c.requires.1 in
    let p = err_from_is_err_and c.from_residual.result c.from_residual.ensures.1 in
    rw (p.1, p.2) (misfitted arm c.args.priority c.args.«data».now c.requires.0 refl refl c.in_err-formed.ensures (some_code c.in_err-formed.field-0.0) refl)

pub returns : goal.returns
unfolding meaning_of
returns c =
    let arm = free_arm c.requires.1 in
    passed arm c.args.priority c.args.«data».now c.requires.0 refl refl c.in_ok-formed.ensures (free-run c.requires.1 c.args.kind c.args.«data».now) refl (free_field c.requires.1 c.args.kind c.args.«data».now) c.pass.ensures
