-- `shape::head::is_listed` meets its contract. Assumes nothing.
use Prim.Native.Nat.{min}
use native.Mathlib.Omega.{arith}
use mathlib.Core.Path.{sym}
use lib.ListN.{get_or}
use borrow.Author.Tests.{le-ltb}
use borrow.Author.Rules.{rules}
use Rattle.laws.proofs.Choices.{same_test}
use Rattle.shape.specs.Limits.{room}
use Rattle.shape.specs.Layout.{count_at}
use Rattle.shape.specs.Head.{modules_of}
use Rattle.shape.proofs.head.is_listed.Goals as goal

pub returns-then-slot-lt-ROOM : goal.returns-then-slot-lt-ROOM
unfolding modules_of
returns-then-slot-lt-ROOM c =
    let s = c.args.slot in
    let n = c.byte_at.result in
    rw (← c.byte_at.ensures) (same_test s n s (min room n) (λ h. omega arith) (λ h. omega arith))

pub returns-else-slot-lt-ROOM : goal.returns-else-slot-lt-ROOM
unfolding modules_of
returns-else-slot-lt-ROOM c = let a = c.args in sym (le-ltb a.slot (min room (get_or a.picture.now count_at 0)) (omega arith))
