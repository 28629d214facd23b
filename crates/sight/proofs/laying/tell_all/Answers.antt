-- `sight::laying::tell_all` meets its contract. Assumes nothing.
use Rattle.std.proofs.Common.{◌∙◌}
use Rattle.bench.proofs.Storing.{dump-turn, dump-done}
use Rattle.sight.proofs.laying.tell_all.Goals as goal

pub loop-i-preserved : goal.loop-i-preserved
loop-i-preserved c =
    let l = c.loop-i in
    let a = c.args in
    dump-turn a.bench.now l.buffer _ a.address l.i c.loop-i-test.true c.lay_block.ensures ∙ l.invariant

pub returns : goal.returns
returns c =
    let l = c.loop-i in
    let a = c.args in
    dump-done a.bench.now l.buffer a.address l.i c.loop-i-test.false ∙ l.invariant
