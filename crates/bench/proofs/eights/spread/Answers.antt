-- `bench::eights::spread` meets its contract. Assumes nothing.
use Prim.Native.Nat.{◌*◌}
use native.Mathlib.Omega.{arith}
use lib.Bits.{and_le_r}
use Rattle.bench.proofs.Spread.{spread-bits, spread_small}
use borrow.Author.Rules.{rules}
use Rattle.bench.proofs.eights.spread.Goals as goal

pub overflow_mul-result : goal.overflow_mul-result
overflow_mul-result c = omega arith

pub overflow_add-result : goal.overflow_add-result
overflow_add-result c = omega (arith, and_le_r (c.args.x * 0x0101010101010101) 0x8040201008040201)

pub returns : goal.returns
returns c = (spread-bits c.args.x (omega arith), spread_small c.args.x)
