-- `replies::leds::one_shown` meets its contract. Assumes nothing.
use native.Mathlib.Omega.{arith}
use borrow.Author.Tests.{ne_eqb}
use Rattle.laws.proofs.Keys.{misses}
use mathlib.Core.List.{[], ◌∷◌}
use Rattle.replies.proofs.leds.one_shown.Goals as goal

pub returns-in-1 : goal.returns-in-1
returns-in-1 c = (rw c.in-1.is, omega arith)

pub returns-in-2 : goal.returns-in-2
returns-in-2 c = (rw c.in-2.is, omega arith)

pub returns-in-3 : goal.returns-in-3
returns-in-3 c = (rw c.in-3.is, omega arith)

pub returns-in-4 : goal.returns-in-4
returns-in-4 c = (rw c.in-4.is, omega arith)

pub returns-in_default : goal.returns-in_default
returns-in_default c =
    let x = c.args.x in
    let m = misses x (1 ∷ 2 ∷ 3 ∷ 4 ∷ []) c.in_default.in_default-own.rest in
    (rw (ne_eqb x 1 m.0, ne_eqb x 2 m.1.0, ne_eqb x 3 m.1.1.0, ne_eqb x 4 m.1.1.1.0), omega arith)
