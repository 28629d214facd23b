-- `groups::writes::size_within` meets its contract; the measure is the number of groups still allowed. Assumes nothing.
use Prim.Native.Nat.{ℕ, ◌+◌, ◌-◌, ◌/◌}
use mathlib.Core.Path.{ap, sym, ◌∙◌}
use native.Mathlib.Numerals.{add-one}
use native.Mathlib.Omega.{arith}
use lib.ListN.{length}
use Rattle.groups.proofs.Writing.{bytes_none, bytes_last, bytes_more, bytes_length}
use Rattle.groups.proofs.writes.+size_within.Goals as goal

pub returns-then-left-eq0 : goal.returns-then-left-eq0
returns-then-left-eq0 t c = let a = c.args in sym (ap length (bytes_none a.left a.v (omega arith)))

pub returns-then-v-lt128 : goal.returns-then-v-lt128
returns-then-v-lt128 t c = let a = c.args in sym (ap length (bytes_last a.left a.v (λ e. omega arith) (omega arith)))

pub overflow_add-result : goal.overflow_add-result
overflow_add-result t c = let a = c.args in omega (arith, c.size_within.ensures, bytes_length (a.left - 1) (a.v / 128))

pub returns : goal.returns
returns t c =
    let a = c.args in
    ap (λ (n : ℕ). n + 1) c.size_within.ensures ∙ add-one _ ∙ sym (ap length (bytes_more a.left a.v (λ e. omega arith) (omega arith)))
