-- `copying::blocks::move_blocks` meets its contract. Assumes nothing.
use Rattle.std.proofs.Common.{◌≡◌, ◌+◌, ◌*◌, arith}
use Rattle.copying.proofs.Runs.{front_on}
use Rattle.copying.proofs.blocks.move_blocks.Goals as goal

pub loop-i-preserved : goal.loop-i-preserved
loop-i-preserved c =
    let l = c.loop-i in
    let a = c.args in
    let e : 128 * (l.i + 1) ≡ 128 * l.i + 128 = omega arith in
    rw e (front_on a.bytes.now a.out.now _ (128 * l.i) 128 (omega arith) l.invariant c.move_block.ensures)
