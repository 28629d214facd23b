-- `kinds::types::up_bit` meets its contract.
-- Assumes nothing.
use mathlib.Core.Path.{◌≡◌}
use native.Mathlib.Omega.{arith}
use Rattle.kinds.specs.Types.{blind_of}
use Rattle.kinds.proofs.Positions.{blind_few}
use borrow.Author.Rules.{rules}
use Rattle.kinds.proofs.types.up_bit.Goals as goal

pub returns-in-1 : goal.returns-in-1
returns-in-1 c = rw (← c.blind_of.ensures, c.in-1.is)

pub returns-in-2 : goal.returns-in-2
returns-in-2 c = rw (← c.blind_of.ensures, c.in-2.is)

pub returns-in_default : goal.returns-in_default
returns-in_default c =
    let a = c.args in
    let third : blind_of a.kind a.channel ≡ 3 = omega (arith, blind_few a.kind a.channel) in
    rw third
