use Rattle.std.proofs.Common.{◌≡◌, ◌≤◌, length, arith}
use Rattle.shape.specs.Layout.{size}
use Rattle.inputs.proofs.Whole.{heard_whole}
use Rattle.inputs.proofs.hearing.hear_input.Goals as goal

pub loop-turn-preserved : goal.loop-turn-preserved
loop-turn-preserved g c =
    let l = c.loop-turn in
    let whole : size ≤ length l.picture = heard_whole l.picture c.read_more.new.window _ _ c.in-Ok.n c.in-Ok-hear_part.ensures.value in
    record {
      picture_size = omega (arith, c.hear_part.auto.picture);
      window_size = omega (arith, c.hear_part.auto.window);
      whole = λ more. omega arith;
    }

pub returns-then-n-eq0-clause-whole : goal.returns-then-n-eq0-clause-whole
returns-then-n-eq0-clause-whole g c =
    let l = c.loop-turn in
    let whole : size ≤ length l.picture = heard_whole l.picture c.read_more.new.window _ _ c.in-Ok.n c.in-Ok-hear_part.ensures.value in
    omega arith
