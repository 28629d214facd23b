-- `bench::eights::all_leds` meets its contract. Assumes nothing.
use Prim.Native.Nat.{◌-◌}
use native.Mathlib.Omega.{arith}
use lib.Bits.{and_le_r}
use Rattle.bench.proofs.Spread.{eight_leds}
use borrow.Author.Rules.{rules}
use Rattle.bench.proofs.eights.all_leds.Goals as goal

pub overflow_sub-slowly-2 : goal.overflow_sub-slowly-2
overflow_sub-slowly-2 c = omega (arith, and_le_r c.args.slow (255 - c.args.on))

pub overflow_mul-result : goal.overflow_mul-result
overflow_mul-result c = omega arith

pub overflow_add-result : goal.overflow_add-result
overflow_add-result c = omega arith

pub overflow_mul-result-2 : goal.overflow_mul-result-2
overflow_mul-result-2 c = omega arith

pub overflow_add-result-2 : goal.overflow_add-result-2
overflow_add-result-2 c = omega arith

pub returns : goal.returns
returns c =
    let a = c.args in
    rw (c.spread-odd.ensures.0, c.spread-twos.ensures.0, c.spread-fours.ensures.0) (eight_leds a.on a.slow a.fast (omega arith))
