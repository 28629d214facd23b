-- The ones of a byte: what the machine counts, and what they say of a byte of one bit. A rule of a byte is one test over all 256.
--     machine_ones       the machine's count is the sum of the eight bits
--     one-bit-ones       a byte has one bit where its ones are 1
--     position_ones      and then its place among the eight is that of its lowest one
--     position_other     of any other byte it is 8
-- Assumes nothing.
use Prim.Native.Nat.{ℕ, ◌<◌}
use mathlib.Core.Path.{◌≡◌, refl, sym, ap}
use mathlib.Core.Bool.{true, false, not, ◌||◌}
use lib.Count.{ones as counted, count_trailing_zeros}
use lib.Dec.{eqb}
use borrow.Author.Tests.{eqb-true}
use Rattle.laws.proofs.Keys.{below}
use Rattle.laws.proofs.Testing.{or_right, same, same_is}
use Rattle.kinds.specs.Bits.{bits, ones, one_bit, OneBitIsOneOne}
use Rattle.kinds.specs.Types.{position_in}

pub machine_ones : (x : ℕ) → x < 256 → counted x ≡ ones x
unfolding counted
machine_ones x h = eqb-true (counted x) (ones x) (below (λ y. eqb (counted y) (ones y)) 256 refl x h)

pub one-bit-ones : OneBitIsOneOne
one-bit-ones x h = same_is (one_bit x) (eqb (ones x) 1) (below (λ y. same (one_bit y) (eqb (ones y) 1)) 256 refl x h)

pub position_ones : (x : ℕ) → x < 256 → one_bit x ≡ true → count_trailing_zeros 8 x ≡ position_in bits x
unfolding count_trailing_zeros position_in
position_ones x h e =
    eqb-true (count_trailing_zeros 8 x) (position_in bits x)
    (or_right (not (one_bit x)) _ (below (λ y. not (one_bit y) || eqb (count_trailing_zeros 8 y) (position_in bits y)) 256 refl x h) (ap not e))

pub position_other : (x : ℕ) → x < 256 → one_bit x ≡ false → 8 ≡ position_in bits x
unfolding position_in
position_other x h e =
    sym (eqb-true (position_in bits x) 8 (or_right (one_bit x) _ (below (λ y. one_bit y || eqb (position_in bits y) 8) 256 refl x h) e))
