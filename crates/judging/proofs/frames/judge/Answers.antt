use Rattle.std.proofs.Common.{refl}
use Rattle.std.proofs.lemmas.Result.{err_from_is_err_and}
use Rattle.laws.proofs.Codes.{some_code}
use Rattle.judging.proofs.Numbers.{frame_number, request_number, command-number}
use Rattle.judging.proofs.frames.judge.Goals as goal

pub returns-in_err-frame_refusal : goal.returns-in_err-frame_refusal
returns-in_err-frame_refusal c =
    let p = err_from_is_err_and c.from_residual.result c.from_residual.ensures.1 in
    rw (p.1, p.2) (frame_number _ _ _ _ c.in_err-frame_refusal.ensures (some_code c.in_err-frame_refusal.field-0.0))

pub returns-then-remote-eq1 : goal.returns-then-remote-eq1
returns-then-remote-eq1 c = request_number _ _ _ _ c.in_ok-frame_refusal.ensures refl c.if-remote-eq1.true c.request_refusal.ensures

pub returns-else-remote-eq1 : goal.returns-else-remote-eq1
returns-else-remote-eq1 c = command-number _ _ _ _ c.in_ok-frame_refusal.ensures refl c.if-remote-eq1.false c.command_refusal.ensures
