-- `copying::blocks::move_pieces` meets its contract. Assumes nothing.
use Rattle.std.proofs.Common.{◌≡◌, ◌+◌, ◌*◌, arith}
use Rattle.copying.proofs.Runs.{front_on}
use Rattle.copying.proofs.blocks.move_pieces.Goals as goal

pub loop-i-preserved : goal.loop-i-preserved
loop-i-preserved c =
    let l = c.loop-i in
    let a = c.args in
    let e : 16 * (l.i + 1) ≡ 16 * l.i + 16 = omega arith in
    rw e (front_on a.bytes.now a.out.now _ (16 * l.i) 16 (omega arith) l.invariant c.move_sixteen.ensures)
