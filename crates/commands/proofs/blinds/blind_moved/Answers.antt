-- `commands::blinds::blind_moved` meets its contract. Assumes nothing.
use Rattle.std.proofs.lemmas.Result.{err_from_is_err_and}
use Rattle.laws.proofs.Codes.{some_code}
use Rattle.std.proofs.Common.{◌≡◌, ◌+◌, sym, refl, ◌∙◌, arith, rules}
use Rattle.frame.specs.Bytes.{byte}
use Rattle.places.specs.Runs.{asking, named_blind, meaning_of}
use Rattle.commands.proofs.Rows.{blinds_here, blinds_not}
use Rattle.commands.proofs.Arms.{not_there, misfitted, at_fault, told}
use Rattle.commands.proofs.Families.{moves_arm, moves_field, moves_run, blind_ends}
use Rattle.commands.proofs.Statuses.{named, named_stop, unnamed}
use Rattle.commands.proofs.blinds.blind_moved.Goals as goal

pub returns-then-wide32-eq-VMB8IR : goal.returns-then-wide32-eq-VMB8IR
returns-then-wide32-eq-VMB8IR c =
    let arm = moves_arm c.requires.1 in
    not_there arm c.args.priority c.args.«data».now c.requires.0 refl (blinds_not c.wide32.ensures c.if-wide32-eq-VMB8IR.true) refl

pub returns-in_err-formed : goal.returns-in_err-formed
returns-in_err-formed c =
    let arm = moves_arm c.requires.1 in
    let p = err_from_is_err_and c.from_residual.result c.from_residual.ensures.1 in
    rw (p.1, p.2) (misfitted arm c.args.priority c.args.«data».now c.requires.0 refl (blinds_here c.wide32.ensures c.if-wide32-eq-VMB8IR.false) c.in_err-formed.ensures (some_code c.in_err-formed.field-0.0) refl)

pub returns-then-n-eq0 : goal.returns-then-n-eq0
returns-then-n-eq0 c =
    let arm = moves_arm c.requires.1 in
    let f = rw (c.wide32-then-n-eq0.ensures, c.byte_at-then-n-eq0.ensures) at c.stop_fault.ensures in
    let n = rw c.byte_at.ensures at c.blind_in-n.ensures in
    at_fault arm c.args.priority c.args.«data».now c.requires.0 refl (blinds_here c.wide32.ensures c.if-wide32-eq-VMB8IR.false) c.in_ok-formed.ensures (f ∙ (moves_field c.requires.1 c.args.kind c.args.«data».now (omega (arith, c.type_inv.data 2)) (omega (arith, c.type_inv.data 3)) (omega (arith, c.type_inv.data 4))))
    (λ z. unnamed c.args.kind (byte 2 c.args.«data».now) n c.if-n-eq0.true (sym f ∙ z)) refl

pub returns : goal.returns
unfolding meaning_of
returns c =
    let arm = moves_arm c.requires.1 in
    let k = named c.args.kind (byte 2 c.args.«data».now) (rw c.byte_at.ensures at c.blind_in-n.ensures) c.if-n-eq0.false in
    let at : 10 + c.wide32-2.result ≡ named_blind c.args.kind (byte 2 c.args.«data».now) = rw (k.number, c.wide32-2.ensures) in
    told arm c.args.priority c.args.«data».now c.requires.0 refl (blinds_here c.wide32.ensures c.if-wide32-eq-VMB8IR.false) c.in_ok-formed.ensures (asking (named_blind c.args.kind (byte 2 c.args.«data».now)) 1) (moves_run c.requires.1 c.args.kind c.args.«data».now)
    (sym (named_stop c.args.kind (byte 2 c.args.«data».now) k) ∙ (moves_field c.requires.1 c.args.kind c.args.«data».now (omega (arith, c.type_inv.data 2)) (omega (arith, c.type_inv.data 3)) (omega (arith, c.type_inv.data 4)))) refl refl (blind_ends c.args.kind (byte 2 c.args.«data».now)) (rw (← at) c.ask_one.ensures)
