-- `sight::laying::tell_status` meets its contract. Assumes nothing.
use Rattle.sight.proofs.Laid.{status-told}
use Rattle.std.proofs.Common.{rules}
use Rattle.sight.proofs.laying.tell_status.Goals as goal

pub returns : goal.returns
returns c =
    let a = c.args in
    let s = c.leds_shown-s in
    status-told a.bench.now a.buffer.now c.lay.new.buffer a.address _ s.result.0 s.result.1 s.result.2 (rw (s.ensures.0, s.ensures.1, s.ensures.2)) c.lay.ensures
