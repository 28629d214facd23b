-- `replay::records::hear_one` meets its contract. Assumes nothing.
use Rattle.shape.specs.Answers.{Outcome}
use Rattle.std.proofs.Common.{◌+◌, ◌-◌, sym, ap, ◌∙◌, add-zero, rules}
use Rattle.replay.specs.Replay.{one, is_done, heard_by}
use Rattle.replay.proofs.records.hear_one.Goals as goal

pub returns-in-Ok : goal.returns-in-Ok
unfolding heard_by
returns-in-Ok c =
    let h = c.hear in
    let n = c.args.refused in
    record { value = sym (add-zero n) ∙ ap (λ (o : Outcome). n + (1 - one (is_done o))) c.in-Ok.ensures.value; picture_after = h.ensures.picture_after }

pub returns-in-Err : goal.returns-in-Err
unfolding heard_by
returns-in-Err c =
    let h = c.hear in
    let n = c.args.refused in
    record { value = ap (λ (o : Outcome). n + (1 - one (is_done o))) c.in-Err.ensures.value; picture_after = h.ensures.picture_after }
