-- `commands::cells::cell_set` meets its contract. Assumes nothing.
use Rattle.std.proofs.lemmas.Result.{err_from_is_err_and}
use Rattle.laws.proofs.Codes.{some_code}
use Rattle.std.proofs.Common.{refl, arith, rules}
use Rattle.kinds.specs.Types.{low, last_cell}
use Rattle.frame.specs.Messages.{location_in}
use Rattle.places.specs.Places.{cell_place}
use Rattle.places.specs.Runs.{asking, meaning_of}
use Rattle.commands.proofs.Rows.{every_module, cells_small}
use Rattle.commands.proofs.Arms.{Arm, misfitted, at_fault, told, near, far}
use Rattle.commands.proofs.cells.cell_set.Goals as goal

arm : Arm every_module 0xFC 4 low
arm = record { some_bytes = refl; no_type = refl; rows = refl }

pub returns-in_err-formed : goal.returns-in_err-formed
returns-in_err-formed c =
    let p = err_from_is_err_and c.from_residual.result c.from_residual.ensures.1 in
    rw (p.1, p.2) (misfitted arm c.args.priority c.args.«data».now c.requires.0 c.requires.1 refl c.in_err-formed.ensures (some_code c.in_err-formed.field-0.0) refl)

pub returns-then-l-last_of : goal.returns-then-l-last_of
returns-then-l-last_of c =
    let l = c.location_in-l.ensures in
    let e = rw (c.wide32.ensures, l) at c.cell_fault.ensures in
    let h = rw (l, c.last_of.ensures) at c.if-l-last_of.true in
    at_fault arm c.args.priority c.args.«data».now c.requires.0 c.requires.1 refl c.in_ok-formed.ensures e (far (last_cell c.args.kind) (location_in c.args.«data».now) h e) refl

pub returns : goal.returns
unfolding meaning_of
returns c =
    let l = c.location_in-l.ensures in
    let h = rw (l, c.last_of.ensures) at c.if-l-last_of.false in
    let place = rw (l) at c.cell_place.ensures in
    told arm c.args.priority c.args.«data».now c.requires.0 c.requires.1 refl c.in_ok-formed.ensures (asking (cell_place c.args.kind (location_in c.args.«data».now).0) 1) refl refl (near (last_cell c.args.kind) (location_in c.args.«data».now) h) refl (omega (arith, cells_small c.args.kind)) (rw (← place) c.ask_one.ensures)
