-- `replay::records::hear_all` meets its contract. Assumes nothing.
use Rattle.std.proofs.Common.{ap, ◌∙◌}
use Rattle.std.specs.Prelude.{Ok}
use Rattle.replay.proofs.Rooms.{replay_refused, replay_heard}
use Rattle.replay.proofs.records.hear_all.Goals as goal

pub returns-then-picture-lt-SIZE : goal.returns-then-picture-lt-SIZE
returns-then-picture-lt-SIZE c = let a = c.args in let both = replay_refused a.picture.now a.s.now c.if-picture-lt-SIZE.true in record { value = both.0; picture_after = both.1 }

pub returns : goal.returns
returns c =
    let a = c.args in
    let h = replay_heard a.picture.now a.s.now c.if-picture-lt-SIZE.false in
    record { value = ap Ok c.hear_records.ensures.value ∙ h.0; picture_after = c.hear_records.ensures.picture_after ∙ h.1 }
