-- `quick::quick::short_number` meets its contract. Assumes nothing.
use Prim.Native.Nat.{ℕ, ◌+◌, ◌-◌, ◌*◌}
use mathlib.Core.Path.{refl, ap, ◌∙◌}
use native.Mathlib.Omega.{arith}
use lib.ListN.{get_or}
use Rattle.std.specs.Prelude.{Ok}
use Rattle.numbers.proofs.Standing.{stands_last, stands-more, stood}
use Rattle.quick.proofs.quick.short_number.Goals as goal

pub returns-then-b-lt128 : goal.returns-then-b-lt128
returns-then-b-lt128 c =
    let a = c.args in
    let s = a.s.now in
    let b = get_or s a.at 0 in
    ap (λ (n : ℕ). Ok (b, n)) (omega arith) ∙ stood s a.at a.most b 1 (omega arith) (omega arith) (stands_last s a.at b (omega arith) refl (omega arith))

pub returns : goal.returns
returns c =
    let a = c.args in
    let s = a.s.now in
    let b = get_or s a.at 0 in
    let high = get_or s (a.at + 1) 0 in
    let small = c.type_inv.s a.at in
    ap (λ (n : ℕ). Ok (b - 128 + 128 * high, n)) (omega arith)
    ∙ stood s a.at a.most (b - 128 + 128 * high) 2 (omega arith) (omega (arith, small))
    (stands-more s a.at b (omega arith) refl (a.at + 1) high 1 (b - 128 + 128 * high) 2 refl refl refl (omega arith) (omega arith)
    (stands_last s (a.at + 1) high (omega arith) refl (omega arith)))
