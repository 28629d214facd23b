-- `groups::writes::fill` meets its contract; the measure is the number of groups still allowed. Assumes nothing.
use Prim.Native.Nat.{ℕ, ◌+◌, ◌-◌, ◌/◌, ◌%◌}
use mathlib.Core.Path.{ap, sym, ◌∙◌}
use native.Mathlib.Numerals.{add-one}
use native.Mathlib.Omega.{arith}
use lib.ListN.{length, set, length-set}
use lib.Seq.{sets}
use Rattle.groups.specs.Number.{number_bytes}
use Rattle.groups.proofs.Writing.{bytes_none, bytes_last, bytes_more}
use Rattle.groups.proofs.writes.+fill.Goals as goal

pub returns-then-left-eq0 : goal.returns-then-left-eq0
returns-then-left-eq0 t c =
    let a = c.args in let e = bytes_none a.left a.v (omega arith) in
    sym (ap (sets a.out.now a.at) e)

pub bounds-out-at : goal.bounds-out-at
bounds-out-at t c = let a = c.args in omega (arith, ap length (bytes_last a.left a.v (λ e. omega arith) (omega arith)))

pub shape_of-out-then-v-lt128 : goal.shape_of-out-then-v-lt128
shape_of-out-then-v-lt128 t c = simp length-set

pub returns-then-v-lt128 : goal.returns-then-v-lt128
returns-then-v-lt128 t c =
    let a = c.args in let e = bytes_last a.left a.v (λ e. omega arith) (omega arith) in
    sym (ap (sets a.out.now a.at) e)

pub bounds-out-at-2 : goal.bounds-out-at-2
bounds-out-at-2 t c = let a = c.args in omega (arith, ap length (bytes_more a.left a.v (λ e. omega arith) (omega arith)))

pub overflow_add-at : goal.overflow_add-at
overflow_add-at t c = let a = c.args in omega (arith, ap length (bytes_more a.left a.v (λ e. omega arith) (omega arith)))

pub fill-requires : goal.fill-requires
fill-requires t c = let a = c.args in (omega arith, simp length-set (omega (arith, ap length (bytes_more a.left a.v (λ e. omega arith) (omega arith)))))

pub shape_of-out : goal.shape_of-out
shape_of-out t c = c.fill.auto.out ∙ simp length-set

pub returns : goal.returns
returns t c =
    let a = c.args in let e = bytes_more a.left a.v (λ e. omega arith) (omega arith) in
    c.fill.ensures ∙ ap (λ (n : ℕ). sets (set a.out.now a.at (a.v % 128 + 128)) n (number_bytes (a.left - 1) (a.v / 128))) (add-one a.at) ∙ sym (ap (sets a.out.now a.at) e)
