-- `commands::lights::leds_told` meets its contract. Assumes nothing.
use Rattle.std.proofs.lemmas.Result.{err_from_is_err_and}
use Rattle.laws.proofs.Codes.{some_code}
use Rattle.std.proofs.Common.{refl, arith, rules}
use Rattle.kinds.specs.Types.{low}
use Rattle.frame.specs.Bytes.{byte}
use Rattle.places.specs.Runs.{all_leds, meaning_of}
use Rattle.laws.specs.Tab.{tab}
use Rattle.commands.proofs.Rows.{with_leds, leds_here, leds_not}
use Rattle.commands.proofs.Arms.{Arm, not_there, misfitted, told}
use Rattle.commands.proofs.lights.leds_told.Goals as goal

arm : Arm with_leds 0xF4 4 low
arm = record { some_bytes = refl; no_type = refl; rows = refl }

pub returns-then-wide32-ne-VMB8IR : goal.returns-then-wide32-ne-VMB8IR
returns-then-wide32-ne-VMB8IR c = not_there arm c.args.priority c.args.«data».now c.requires.0 c.requires.1 (leds_not c.wide32.ensures c.if-wide32-ne-VMB8IR.true) refl

pub returns-in_err-formed : goal.returns-in_err-formed
returns-in_err-formed c =
    let p = err_from_is_err_and c.from_residual.result c.from_residual.ensures.1 in
    rw (p.1, p.2) (misfitted arm c.args.priority c.args.«data».now c.requires.0 c.requires.1 (leds_here c.wide32.ensures c.if-wide32-ne-VMB8IR.false) c.in_err-formed.ensures (some_code c.in_err-formed.field-0.0) refl)

pub returns : goal.returns
unfolding meaning_of tab
returns c = told arm c.args.priority c.args.«data».now c.requires.0 c.requires.1 (leds_here c.wide32.ensures c.if-wide32-ne-VMB8IR.false) c.in_ok-formed.ensures (all_leds (byte 2 c.args.«data».now) (byte 3 c.args.«data».now) (byte 4 c.args.«data».now)) refl refl refl refl (omega arith) (rw (← c.byte_at.ensures, ← c.byte_at-2.ensures, ← c.byte_at-3.ensures) c.tell_leds.ensures)
