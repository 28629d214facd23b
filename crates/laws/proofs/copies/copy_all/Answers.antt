-- `laws::copies::copy_all` meets its contract. Assumes nothing.
use Rattle.std.proofs.Common.{ap, ◌∙◌}
use Rattle.std.proofs.lemmas.List.Edits.{sets}
use Rattle.std.proofs.Math.Seq.{take_all}
use Rattle.laws.proofs.Stores.{sets_more}
use Rattle.laws.proofs.copies.copy_all.Goals as goal

pub loop-i-preserved : goal.loop-i-preserved
loop-i-preserved c =
    let l = c.loop-i in
    let a = c.args in
    rw l.invariant (sets_more a.out.now a.bytes.now a.at l.i c.loop-i-test.true)

pub returns : goal.returns
returns c =
    let l = c.loop-i in
    let a = c.args in
    l.invariant ∙ ap (sets a.out.now a.at) (take_all l.i a.bytes.now c.loop-i-test.false)
