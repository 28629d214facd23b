-- `commands::names::six_told` meets its contract. Assumes nothing.
use Rattle.std.proofs.lemmas.Result.{err_from_is_err_and}
use Rattle.laws.proofs.Codes.{some_code}
use Rattle.std.proofs.Common.{◌≡◌, ◌+◌, ◌*◌, refl, ◌∙◌, arith, rules}
use Rattle.kinds.specs.Types.{name_of}
use Rattle.frame.specs.Bytes.{byte}
use Rattle.places.specs.Places.{character_place}
use Rattle.places.specs.Runs.{meaning_of}
use Rattle.commands.proofs.Arms.{misfitted, at_fault, told}
use Rattle.commands.proofs.Families.{six_arm, six_field, six_told_lem, six-run, name_ends}
use Rattle.commands.proofs.names.six_told.Goals as goal

pub returns-in_err-formed : goal.returns-in_err-formed
returns-in_err-formed c =
    let arm = six_arm c.args.part c.requires.1 in
    let p = err_from_is_err_and c.from_residual.result c.from_residual.ensures.1 in
    rw (p.1, p.2) (misfitted arm c.args.priority c.args.«data».now c.requires.0 c.requires.2 refl c.in_err-formed.ensures (some_code c.in_err-formed.field-0.0) refl)

pub returns-in_err-channel_fault : goal.returns-in_err-channel_fault
returns-in_err-channel_fault c =
    let arm = six_arm c.args.part c.requires.1 in
    let e = (rw (c.wide32.ensures, c.byte_at.ensures) at c.in_err-channel_fault.ensures) ∙ six_field c.args.kind c.args.«data».now c.args.part c.requires.1 in
    let p = err_from_is_err_and c.from_residual-in_err-channel_fault.result c.from_residual-in_err-channel_fault.ensures.1 in
    rw (p.1, p.2) (at_fault arm c.args.priority c.args.«data».now c.requires.0 c.requires.2 refl c.in_ok-formed.ensures e (some_code c.in_err-channel_fault.field-0.0) refl)

pub returns : goal.returns
unfolding meaning_of
returns c =
    let arm = six_arm c.args.part c.requires.1 in
    let e = (rw (c.wide32.ensures, c.byte_at.ensures) at c.in_ok-channel_fault.ensures) ∙ six_field c.args.kind c.args.«data».now c.args.part c.requires.1 in
    let place : c.character_in.result ≡ character_place c.args.kind (name_of c.args.kind (byte 2 c.args.«data».now)) (1 + 6 * c.args.part) = c.character_in.ensures in
    told arm c.args.priority c.args.«data».now c.requires.0 c.requires.2 refl c.in_ok-formed.ensures (six_told_lem c.args.kind c.args.«data».now c.args.part) (six-run c.args.kind c.args.«data».now c.args.part c.requires.1) e refl refl (name_ends c.args.kind (byte 2 c.args.«data».now) (1 + 6 * c.args.part) 6 (omega arith)) (rw (← c.byte_at-2.ensures, ← c.byte_at-3.ensures, ← c.byte_at-4.ensures, ← c.byte_at-5.ensures, ← c.byte_at-6.ensures, ← c.byte_at-7.ensures, ← place) c.tell_six.ensures)
