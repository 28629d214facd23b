-- `commands::blinds::blind_told` meets its contract. Assumes nothing.
use Rattle.std.proofs.lemmas.Result.{err_from_is_err_and}
use Rattle.laws.proofs.Codes.{some_code}
use Rattle.std.proofs.Common.{[], ◌∷◌, refl, rules}
use Rattle.kinds.specs.Types.{low}
use Rattle.frame.specs.Bytes.{byte}
use Rattle.places.specs.Runs.{telling, named_blind, blind_state, meaning_of}
use Rattle.commands.specs.Arms.{status_bytes}
use Rattle.commands.proofs.Rows.{with_blinds, blinds_here, blinds_not}
use Rattle.commands.proofs.Arms.{Arm, not_there, misfitted, by_field}
use Rattle.commands.proofs.Families.{blind_ends}
use Rattle.commands.proofs.blinds.blind_told.Goals as goal

arm : Arm with_blinds 0xEC 8 low
arm = record { some_bytes = refl; no_type = refl; rows = refl }

pub returns-then-wide32-eq-VMB8IR : goal.returns-then-wide32-eq-VMB8IR
returns-then-wide32-eq-VMB8IR c = not_there arm c.args.priority c.args.«data».now c.requires.0 c.requires.1 (blinds_not c.wide32.ensures c.if-wide32-eq-VMB8IR.true) refl

pub returns-in_err-formed : goal.returns-in_err-formed
returns-in_err-formed c =
    let p = err_from_is_err_and c.from_residual.result c.from_residual.ensures.1 in
    rw (p.1, p.2) (misfitted arm c.args.priority c.args.«data».now c.requires.0 c.requires.1 (blinds_here c.wide32.ensures c.if-wide32-eq-VMB8IR.false) c.in_err-formed.ensures (some_code c.in_err-formed.field-0.0) refl)

pub returns : goal.returns
unfolding meaning_of status_bytes
returns c =
    by_field arm c.args.priority c.args.«data».now c.requires.0 c.requires.1 (blinds_here c.wide32.ensures c.if-wide32-eq-VMB8IR.false) c.in_ok-formed.ensures (telling (named_blind c.args.kind (byte 2 c.args.«data».now)) (blind_state c.args.kind (byte 2 c.args.«data».now) (byte 4 c.args.«data».now) ∷ [])) refl refl (blind_ends c.args.kind (byte 2 c.args.«data».now))
    (rw (c.byte_at.ensures, c.byte_at-2.ensures, c.byte_at-3.ensures, c.byte_at-4.ensures) at c.status_told.ensures.value)
    (rw (c.byte_at.ensures, c.byte_at-2.ensures, c.byte_at-3.ensures, c.byte_at-4.ensures) at c.status_told.ensures.picture_after)
