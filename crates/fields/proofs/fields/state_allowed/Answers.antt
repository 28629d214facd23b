-- `fields::fields::state_allowed` meets its contract.
-- Assumes nothing.
use mathlib.Core.Path.{◌≡◌, refl}
use mathlib.Core.Bool.{Bool, true, false, ◌||◌, cond}
use Prim.Native.Nat.{◌*◌}
use lib.Dec.{eqb}
use native.Mathlib.Omega.{arith}
use Rattle.kinds.proofs.Positions.{up_small}
use Rattle.fields.proofs.fields.state_allowed.Goals as goal

one_of : (a b c : Bool) → a || (b || c) ≡ cond a true (cond b true (cond c true false))
one_of true b c = refl
one_of false true c = refl
one_of false false true = refl
one_of false false false = refl

pub overflow_mul-up : goal.overflow_mul-up
overflow_mul-up c = omega (arith, c.up_bit-up.ensures, up_small c.args.kind c.args.channel)

pub returns : goal.returns
returns c =
    let state = c.args.state in
    let up = c.up_bit-up.result in
    rw (c.either-2.ensures, c.either.ensures, ← c.up_bit-up.ensures) (one_of (eqb state 0) (eqb state up) (eqb state (2 * up)))
