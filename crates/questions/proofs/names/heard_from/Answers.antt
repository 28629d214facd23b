-- `questions::names::heard_from` meets its contract. Assumes nothing.
use Rattle.std.proofs.Common.{◌+◌, ◌*◌, arith}
use Rattle.questions.specs.Fills.{heard_at}
use Rattle.questions.proofs.Filling.{sum-none, sum_more}
use Rattle.questions.proofs.names.heard_from.Goals as goal

pub loop-i-init : goal.loop-i-init
loop-i-init c = (omega arith, sum-none (λ i. heard_at c.args.picture.now (c.args.at + 2 * i)))

pub loop-i-preserved : goal.loop-i-preserved
loop-i-preserved c =
    let l = c.loop-i in
    let a = c.args in
    (omega (arith, c.heard_at-count.ensures.1), sum_more (λ i. heard_at a.picture.now (a.at + 2 * i)) l.i l.invariant.1 c.heard_at-count.ensures.0)
