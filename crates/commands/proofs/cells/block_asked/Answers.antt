-- `commands::cells::block_asked` meets its contract. Assumes nothing.
use Rattle.std.proofs.lemmas.Result.{err_from_is_err_and}
use Rattle.laws.proofs.Codes.{some_code}
use Rattle.std.proofs.Common.{refl, rules}
use Rattle.kinds.specs.Types.{low, last_start}
use Rattle.frame.specs.Messages.{location_in}
use Rattle.places.specs.Runs.{meaning_of}
use Rattle.commands.proofs.Rows.{every_module}
use Rattle.commands.proofs.Arms.{Arm, misfitted, at_fault, passed, near, far}
use Rattle.commands.proofs.cells.block_asked.Goals as goal

arm : Arm every_module 0xC9 3 low
arm = record { some_bytes = refl; no_type = refl; rows = refl }

pub returns-in_err-formed : goal.returns-in_err-formed
returns-in_err-formed c =
    let p = err_from_is_err_and c.from_residual.result c.from_residual.ensures.1 in
    rw (p.1, p.2) (misfitted arm c.args.priority c.args.«data».now c.requires.0 c.requires.1 refl c.in_err-formed.ensures (some_code c.in_err-formed.field-0.0) refl)

pub returns-then-l-last_start_of : goal.returns-then-l-last_start_of
returns-then-l-last_start_of c =
    let l = c.location_in-l.ensures in
    let e = rw (c.wide32.ensures, l) at c.block_fault.ensures in
    let h = rw (l, c.last_start_of.ensures) at c.if-l-last_start_of.true in
    at_fault arm c.args.priority c.args.«data».now c.requires.0 c.requires.1 refl c.in_ok-formed.ensures e (far (last_start c.args.kind) (location_in c.args.«data».now) h e) refl

pub returns : goal.returns
unfolding meaning_of
returns c =
    let l = c.location_in-l.ensures in
    let h = rw (l, c.last_start_of.ensures) at c.if-l-last_start_of.false in
    passed arm c.args.priority c.args.«data».now c.requires.0 c.requires.1 refl c.in_ok-formed.ensures refl refl (near (last_start c.args.kind) (location_in c.args.«data».now) h) c.pass.ensures
