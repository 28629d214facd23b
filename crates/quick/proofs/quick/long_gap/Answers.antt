-- `quick::quick::long_gap` meets its contract. Assumes nothing.
use Prim.Native.Nat.{◌+◌, ◌-◌, ◌*◌}
use native.Mathlib.Omega.{arith}
use Rattle.std.proofs.lemmas.Option.{IfSome_then}
use Rattle.numbers.proofs.Standing.{stands_three, stands_four, stands_five}
use Rattle.recording.proofs.Entries.{gap_taken}
use Rattle.quick.proofs.quick.long_gap.Goals as goal

pub returns-then-c-lt128 : goal.returns-then-c-lt128
returns-then-c-lt128 c =
    let a = c.args in
    let x = c.wide-c in
    let s = a.s.now in
    IfSome_then c.shortest.result c.shortest.ensures
    (λ _. gap_taken s a.at (a.a - 128 + 128 * (a.b - 128) + 16384 * x.result) 3 x.result (omega arith)
    (stands_three s a.at a.a a.b (omega arith) (omega arith) (omega arith) (omega arith) (omega arith) x.result x.ensures.value (omega arith)))

pub returns-then-d-lt128 : goal.returns-then-d-lt128
returns-then-d-lt128 c =
    let a = c.args in
    let x = c.wide-c in
    let y = c.wide-d in
    let s = a.s.now in
    IfSome_then c.shortest-then-d-lt128.result c.shortest-then-d-lt128.ensures
    (λ _. gap_taken s a.at (a.a - 128 + 128 * (a.b - 128) + 16384 * (x.result - 128) + 2097152 * y.result) 4 y.result (omega arith)
    (stands_four s a.at a.a a.b (omega arith) (omega arith) (omega arith) (omega arith) (omega arith) x.result y.result x.ensures.value y.ensures.value (omega arith) (omega arith)))

pub returns-then-e-lt128 : goal.returns-then-e-lt128
returns-then-e-lt128 c =
    let a = c.args in
    let x = c.wide-c in
    let y = c.wide-d in
    let z = c.wide-e in
    let s = a.s.now in
    IfSome_then c.shortest-then-e-lt128.result c.shortest-then-e-lt128.ensures
    (λ _. gap_taken s a.at (a.a - 128 + 128 * (a.b - 128) + 16384 * (x.result - 128) + 2097152 * (y.result - 128) + 268435456 * z.result) 5 z.result (omega arith)
    (stands_five s a.at a.a a.b (omega arith) (omega arith) (omega arith) (omega arith) (omega arith) x.result y.result z.result x.ensures.value y.ensures.value z.ensures.value
    (omega arith) (omega arith) (omega arith)))
