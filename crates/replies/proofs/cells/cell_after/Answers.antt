-- `replies::cells::cell_after` meets its contract. Assumes nothing.
use native.Mathlib.Omega.{arith}
use mathlib.Core.Path.{◌≡◌}
use Prim.Native.Nat.{◌+◌}
use borrow.Author.Rules.{rules}
use Rattle.replies.proofs.cells.cell_after.Goals as goal

pub returns : goal.returns
returns c =
    let a = c.args in
    let e : c.cell_place.result + a.more ≡ 256 + (a.l.0 + a.more) = omega (arith, c.cell_place.ensures) in
    rw (← e) c.byte_at.ensures
