-- `steering::steps::keep_more` meets its contract. Assumes nothing.
use Rattle.std.proofs.Common.{add-one, arith, rules, le-ltb, lt-ltb}
use Rattle.steering.proofs.steps.keep_more.Goals as goal

pub returns-then-kept-depth_of : goal.returns-then-kept-depth_of
returns-then-kept-depth_of c =
    let kept = c.kept_of-kept in
    let depth = c.depth_of in
    rw (← kept.ensures, ← depth.ensures, lt-ltb kept.result depth.result (omega arith)) (rw add-one at c.put_at.ensures)

pub returns-else-kept-depth_of : goal.returns-else-kept-depth_of
returns-else-kept-depth_of c =
    let kept = c.kept_of-kept in
    let depth = c.depth_of in
    rw (← kept.ensures, ← depth.ensures, le-ltb kept.result depth.result (omega arith))
