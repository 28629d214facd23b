-- `bench::bytes::put_bytes` meets its contract. Assumes nothing.
use Rattle.std.proofs.Common.{ap, ◌∙◌}
use Rattle.std.proofs.lemmas.List.Edits.{sets}
use Rattle.std.proofs.Math.Seq.{take_all}
use Rattle.laws.proofs.Stores.{sets_more}
use Rattle.bench.proofs.bytes.put_bytes.Goals as goal

pub loop-i-preserved : goal.loop-i-preserved
loop-i-preserved c =
    let l = c.loop-i in
    let a = c.args in
    c.put_at.ensures ∙ (rw l.invariant (sets_more a.s.now a.source.now a.at l.i c.loop-i-test.true))

pub returns : goal.returns
returns c =
    let l = c.loop-i in
    let a = c.args in
    l.invariant ∙ ap (sets a.s.now a.at) (take_all l.i a.source.now c.loop-i-test.false)
