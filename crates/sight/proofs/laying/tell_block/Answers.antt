-- `sight::laying::tell_block` meets its contract. Assumes nothing.
use Rattle.replies.specs.Replies.{block}
use Rattle.bench.proofs.Storing.{one-reply}
use Rattle.std.proofs.Common.{◌∙◌, rules}
use Rattle.sight.proofs.laying.tell_block.Goals as goal

pub returns : goal.returns
returns c =
    let a = c.args in
    c.lay_block.ensures ∙ one-reply a.buffer.now 0 a.address (block a.bench.now a.l)
