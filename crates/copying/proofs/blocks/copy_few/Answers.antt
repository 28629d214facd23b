-- `copying::blocks::copy_few` meets its contract. Assumes nothing.
use Prim.Native.Nat.{◌-◌}
use mathlib.Core.Path.{sym}
use lib.ListN.{length}
use Rattle.laws.proofs.Copying.{copied_none}
use Rattle.copying.proofs.Runs.{copied_in_two}
use borrow.Author.Rules.{rules}
use native.Mathlib.Omega.{arith}
use Rattle.copying.proofs.blocks.copy_few.Goals as goal

pub returns-then-out-bytes : goal.returns-then-out-bytes
returns-then-out-bytes c = let a = c.args in sym (copied_none a.out.now 0 a.bytes.now (omega arith))

pub returns : goal.returns
returns c =
    let pieces = c.move_pieces-done in
    let a = c.args in
    copied_in_two a.bytes.now a.out.now pieces.result (length a.bytes.now - pieces.result) (omega arith) (omega arith) pieces.ensures.1 c.copy_in.ensures
