-- `fields::fields::buttons_allowed` meets its contract.
-- Assumes nothing.
use Prim.Native.Nat.{ℕ, ◌/◌, ◌%◌, ◌<◌}
use mathlib.Core.Path.{◌≡◌, refl}
use mathlib.Core.Bool.{◌&&◌}
use lib.Dec.{eqb, ltb}
use Rattle.kinds.proofs.Listed.{other_line}
use Rattle.kinds.specs.Bits.{bits}
use Rattle.kinds.specs.Types.{line_of, channels_of, blind_channels}
use Rattle.fields.specs.Fields.{clear_bits, buttons_allowed}
use Rattle.laws.proofs.Keys.{below}
use Rattle.laws.proofs.Testing.{same, same_is}
use mathlib.Core.List.{[]}
use native.Mathlib.Omega.{arith}
use Rattle.fields.proofs.fields.buttons_allowed.Goals as goal

of-blind : (x : ℕ) → x < 256 → (ltb x 64 && eqb (x / 4 % 4) 0) ≡ clear_bits blind_channels bits x
of-blind x h = same_is _ _ (below (λ x. same (ltb x 64 && eqb (x / 4 % 4) 0) (clear_bits blind_channels bits x)) 256 refl x h)

of_none : (x : ℕ) → x < 256 → eqb x 0 ≡ clear_bits [] bits x
of_none x h = same_is _ _ (below (λ x. same (eqb x 0) (clear_bits [] bits x)) 256 refl x h)

pub returns-in-3 : goal.returns-in-3
unfolding buttons_allowed line_of
returns-in-3 c = rw (c.in-3.is, c.both.ensures) (of-blind c.args.x (omega arith))

pub returns-in-10 : goal.returns-in-10
unfolding buttons_allowed line_of
returns-in-10 c = rw c.in-10.is

pub returns-in-9 : goal.returns-in-9
unfolding buttons_allowed line_of
returns-in-9 c = rw c.in-9.is

pub returns-in_default : goal.returns-in_default
unfolding buttons_allowed
returns-in_default c = rw (other_line c.args.kind c.in_default.in_default-own.rest, channels_of) (of_none c.args.x (omega arith))
