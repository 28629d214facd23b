-- `steering::clearing::fresh_with` meets its contract. Assumes nothing.
use Rattle.std.proofs.Common.{arith, rules, le-ltb, lt-ltb}
use Rattle.shape.specs.Limits.{most_depth}
use Rattle.steering.specs.Fresh.{freshening_with}
use Rattle.steering.proofs.clearing.fresh_with.Goals as goal

pub returns-then-picture-lt-SIZE : goal.returns-then-picture-lt-SIZE
unfolding freshening_with
returns-then-picture-lt-SIZE c = let short = lt-ltb _ _ c.if-picture-lt-SIZE.true in record { value = rw short; picture_after = rw short }

pub returns-then-depth-gt-DEEPEST : goal.returns-then-depth-gt-DEEPEST
unfolding freshening_with
returns-then-depth-gt-DEEPEST c =
    let long = le-ltb _ _ c.if-picture-lt-SIZE.false in
    let deep = lt-ltb most_depth c.args.depth (omega arith) in
    record { value = rw (long, deep); picture_after = rw (long, deep) }

pub returns : goal.returns
unfolding freshening_with
returns c =
    let long = le-ltb _ _ c.if-picture-lt-SIZE.false in
    let named = le-ltb most_depth c.args.depth (omega arith) in
    record { value = rw (long, named); picture_after = rw (long, named, ← c.clear_head.ensures) c.put_at.ensures }
