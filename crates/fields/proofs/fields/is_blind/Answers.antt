-- `fields::fields::is_blind` meets its contract.
-- Assumes nothing.
use mathlib.Core.Path.{◌≡◌, refl}
use mathlib.Core.Bool.{Bool, true, false, ◌||◌, cond}
use lib.Dec.{eqb}
use Rattle.kinds.specs.Types.{line_of, blinds_of}
use Rattle.kinds.proofs.Listed.{other_line}
use Rattle.fields.proofs.fields.is_blind.Goals as goal

-- a look through a list of one and of two numbers
one_of : (a : Bool) → a ≡ cond a true false
one_of true = refl
one_of false = refl

two-of : (a b : Bool) → a || b ≡ cond a true (cond b true false)
two-of true b = refl
two-of false b = one_of b

pub returns-in-3 : goal.returns-in-3
unfolding line_of
returns-in-3 c = rw c.in-3.is (one_of (eqb c.args.channel 0x03))

pub returns-in-10 : goal.returns-in-10
unfolding line_of
returns-in-10 c = rw c.in-10.is

pub returns-in-9 : goal.returns-in-9
unfolding line_of
returns-in-9 c = rw (c.in-9.is, c.either.ensures) (two-of (eqb c.args.channel 0x03) (eqb c.args.channel 0x0C))

pub returns-in_default : goal.returns-in_default
returns-in_default c = rw (other_line c.args.kind c.in_default.in_default-own.rest, blinds_of)
