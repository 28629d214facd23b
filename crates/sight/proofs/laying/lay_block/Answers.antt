-- `sight::laying::lay_block` meets its contract. Assumes nothing.
use Rattle.sight.proofs.Laid.{block-laid}
use Rattle.std.proofs.Common.{rules}
use Rattle.sight.proofs.laying.lay_block.Goals as goal

pub returns : goal.returns
returns c =
    let a = c.args in
    block-laid a.bench.now a.buffer.now c.lay.new.buffer a.address a.at a.l c.requires.1.0 c.lay.ensures
