-- `replay::window::shift` meets its contract. Assumes nothing.
use Rattle.std.proofs.Common.{◌-◌, ◌++◌, drop, ap, ◌∙◌, zero-add}
use Rattle.std.proofs.lemmas.Slice.{between_is}
use Rattle.replay.proofs.window.shift.Goals as goal

pub returns : goal.returns
returns c =
    let a = c.args in
    let w = a.window.now in
    c.copy_within.ensures.after ∙ rw zero-add (ap (λ moved. moved ++ drop (a.filled - a.from) w) (between_is w a.from a.filled))
