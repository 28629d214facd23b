-- `quick::quick::quick_gap` meets its contract. Assumes nothing.
use Prim.Native.Nat.{ℕ, ◌+◌, ◌-◌, ◌*◌}
use mathlib.Core.Path.{refl, ap, ◌∙◌}
use native.Mathlib.Omega.{arith}
use Rattle.std.specs.Prelude.{Ok}
use Rattle.std.proofs.lemmas.Option.{IfSome_then}
use Rattle.numbers.proofs.Standing.{stands_last, stands-more, stood}
use Rattle.recording.specs.Limits.{most_gap}
use Rattle.recording.proofs.Entries.{gap_taken}
use Rattle.quick.proofs.quick.quick_gap.Goals as goal

pub returns-then-first-lt128 : goal.returns-then-first-lt128
returns-then-first-lt128 c =
    let a = c.args in
    let x = c.wide-first in
    let s = a.s.now in
    ap (λ (n : ℕ). Ok (x.result, n)) (omega arith) ∙ stood s a.at most_gap x.result 1 (omega arith) (omega arith) (stands_last s a.at x.result (omega arith) x.ensures.value (omega arith))

pub returns-then-second-lt128 : goal.returns-then-second-lt128
returns-then-second-lt128 c =
    let a = c.args in
    let x = c.wide-first in
    let y = c.wide-second in
    let s = a.s.now in
    IfSome_then c.shortest.result c.shortest.ensures
    (λ _. gap_taken s a.at (x.result - 128 + 128 * y.result) 2 y.result (omega arith)
    (λ last. stands-more s a.at x.result (omega arith) x.ensures.value (a.at + 1) y.result 1 _ 2 refl refl refl (omega arith) last
    (stands_last s (a.at + 1) y.result (omega arith) y.ensures.value (omega arith))))
