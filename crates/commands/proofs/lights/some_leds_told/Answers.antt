-- `commands::lights::some_leds_told` meets its contract. Assumes nothing.
use Rattle.std.proofs.lemmas.Result.{err_from_is_err_and}
use Rattle.laws.proofs.Codes.{some_code}
use Rattle.std.proofs.Common.{refl, arith, rules}
use Rattle.frame.specs.Bytes.{byte}
use Rattle.places.specs.Runs.{some_leds, meaning_of}
use Rattle.laws.specs.Tab.{tab}
use Rattle.commands.proofs.Rows.{leds_here, leds_not}
use Rattle.commands.proofs.Arms.{not_there, misfitted, told}
use Rattle.commands.proofs.Families.{leds_arm, leds_field, leds-run}
use Rattle.commands.proofs.lights.some_leds_told.Goals as goal

pub returns-then-wide32-ne-VMB8IR : goal.returns-then-wide32-ne-VMB8IR
returns-then-wide32-ne-VMB8IR c =
    let arm = leds_arm c.args.state c.requires.1 in
    not_there arm c.args.priority c.args.«data».now c.requires.0 c.requires.2 (leds_not c.wide32.ensures c.if-wide32-ne-VMB8IR.true) refl

pub returns-in_err-formed : goal.returns-in_err-formed
returns-in_err-formed c =
    let arm = leds_arm c.args.state c.requires.1 in
    let p = err_from_is_err_and c.from_residual.result c.from_residual.ensures.1 in
    rw (p.1, p.2) (misfitted arm c.args.priority c.args.«data».now c.requires.0 c.requires.2 (leds_here c.wide32.ensures c.if-wide32-ne-VMB8IR.false) c.in_err-formed.ensures (some_code c.in_err-formed.field-0.0) refl)

pub returns : goal.returns
unfolding meaning_of tab
returns c =
    let arm = leds_arm c.args.state c.requires.1 in
    told arm c.args.priority c.args.«data».now c.requires.0 c.requires.2 (leds_here c.wide32.ensures c.if-wide32-ne-VMB8IR.false) c.in_ok-formed.ensures (some_leds (byte 2 c.args.«data».now) c.args.state) (leds-run c.args.kind c.args.«data».now c.args.state c.requires.1) refl (leds_field c.args.kind c.args.«data».now c.args.state c.requires.1) refl (omega arith) (rw (← c.byte_at.ensures) c.tell_some_leds.ensures)
