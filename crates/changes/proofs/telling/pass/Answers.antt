-- `changes::telling::pass` meets its contract. Assumes nothing.
use Rattle.std.proofs.Common.{◌∙◌, rules, le-ltb, lt-ltb}
use Rattle.stores.proofs.Within.{noted_in_lem}
use Rattle.changes.specs.Telling.{same_bytes, passed_in}
use Rattle.changes.proofs.telling.pass.Goals as goal

pub returns-then-picture-lt-SIZE : goal.returns-then-picture-lt-SIZE
unfolding passed_in
returns-then-picture-lt-SIZE c = rw (lt-ltb _ _ c.if-picture-lt-SIZE.true)

pub returns : goal.returns
unfolding passed_in same_bytes
returns c =
    let long = c.if-picture-lt-SIZE.false in
    rw (le-ltb _ _ long, ← noted_in_lem _ _ long, ← c.note.ensures) c.step_on.ensures
