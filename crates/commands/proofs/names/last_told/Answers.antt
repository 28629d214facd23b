-- `commands::names::last_told` meets its contract. Assumes nothing.
use Rattle.std.proofs.lemmas.Result.{err_from_is_err_and}
use Rattle.laws.proofs.Codes.{some_code}
use Rattle.std.proofs.Common.{◌≡◌, [], ◌∷◌, refl, arith, rules}
use Rattle.kinds.specs.Types.{low, name_of}
use Rattle.frame.specs.Bytes.{byte}
use Rattle.places.specs.Places.{character_place}
use Rattle.places.specs.Runs.{characters, meaning_of}
use Rattle.commands.proofs.Rows.{every_module}
use Rattle.commands.proofs.Arms.{Arm, misfitted, at_fault, told}
use Rattle.commands.proofs.Families.{name_ends}
use Rattle.commands.proofs.names.last_told.Goals as goal

arm : Arm every_module 0xF2 6 low
arm = record { some_bytes = refl; no_type = refl; rows = refl }

pub returns-in_err-formed : goal.returns-in_err-formed
returns-in_err-formed c =
    let p = err_from_is_err_and c.from_residual.result c.from_residual.ensures.1 in
    rw (p.1, p.2) (misfitted arm c.args.priority c.args.«data».now c.requires.0 c.requires.1 refl c.in_err-formed.ensures (some_code c.in_err-formed.field-0.0) refl)

pub returns-in_err-last_part_fault : goal.returns-in_err-last_part_fault
returns-in_err-last_part_fault c =
    let e = rw (c.wide32.ensures, c.byte_at.ensures, c.byte_at-2.ensures) at c.in_err-last_part_fault.ensures in
    let p = err_from_is_err_and c.from_residual-in_err-last_part_fault.result c.from_residual-in_err-last_part_fault.ensures.1 in
    rw (p.1, p.2) (at_fault arm c.args.priority c.args.«data».now c.requires.0 c.requires.1 refl c.in_ok-formed.ensures e (some_code c.in_err-last_part_fault.field-0.0) refl)

pub returns : goal.returns
unfolding meaning_of
returns c =
    let e = rw (c.wide32.ensures, c.byte_at.ensures, c.byte_at-2.ensures) at c.in_ok-last_part_fault.ensures in
    let place : c.character_in.result ≡ character_place c.args.kind (name_of c.args.kind (byte 2 c.args.«data».now)) 13 = c.character_in.ensures in
    told arm c.args.priority c.args.«data».now c.requires.0 c.requires.1 refl c.in_ok-formed.ensures (characters c.args.kind (byte 2 c.args.«data».now) 13 (byte 3 c.args.«data».now ∷ byte 4 c.args.«data».now ∷ byte 5 c.args.«data».now ∷ byte 6 c.args.«data».now ∷ [])) refl e refl refl (name_ends c.args.kind (byte 2 c.args.«data».now) 13 4 (omega arith)) (rw (← c.byte_at-3.ensures, ← c.byte_at-4.ensures, ← c.byte_at-5.ensures, ← c.byte_at-6.ensures, ← place) c.tell_four.ensures)
