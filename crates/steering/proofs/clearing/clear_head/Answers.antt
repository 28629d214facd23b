-- `steering::clearing::clear_head` meets its contract. Assumes nothing.
use Rattle.std.proofs.Common.{◌≡◌, ◌++◌, length, take, drop, replicate, ap, ◌∙◌}
use Rattle.std.proofs.Math.Seq.{length-take-le}
use Rattle.shape.specs.Layout.{head_size}
use Rattle.steering.proofs.Zeroed.{zeroed_front}
use Rattle.steering.proofs.clearing.clear_head.Goals as goal

pub returns : goal.returns
returns c =
    let p = c.args.picture.now in
    let n : length (take head_size p) ≡ head_size = length-take-le head_size p c.requires in
    ap (λ xs. xs ++ drop head_size p) (c.fill.ensures.after (λ y e. e) ∙ ap (λ k. replicate k 0) n) ∙ zeroed_front p head_size c.requires
