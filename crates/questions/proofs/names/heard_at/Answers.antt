-- `questions::names::heard_at` meets its contract: a place's number is below 256 exactly where its high byte is 0. Assumes nothing.
use Prim.Native.Nat.{◌+◌}
use lib.ListN.{get_or}
use borrow.Author.Tests.{eq-eqb, ne_eqb}
use native.Mathlib.Omega.{arith}
use Rattle.questions.proofs.names.heard_at.Goals as goal

pub returns-then-number-lt-NOT_HEARD : goal.returns-then-number-lt-NOT_HEARD
returns-then-number-lt-NOT_HEARD c = let a = c.args in (rw (eq-eqb (get_or a.picture.now (a.at + 1) 0) 0 (omega arith)), omega arith)

pub returns-else-number-lt-NOT_HEARD : goal.returns-else-number-lt-NOT_HEARD
returns-else-number-lt-NOT_HEARD c =
    let a = c.args in
    (rw (ne_eqb (get_or a.picture.now (a.at + 1) 0) 0 (λ e. omega (arith, c.type_inv.picture a.at))), omega arith)
