-- `groups::scan::read_groups` meets its contract; the measure is the number of groups still allowed. Assumes nothing.
use Prim.Native.Nat.{◌+◌, ◌-◌, ◌/◌}
use native.Mathlib.Omega.{arith}
use mathlib.Core.Path.{refl}
use borrow.Author.Tests.{eq-eqb, ne_eqb}
use Rattle.std.proofs.lemmas.Result.{err_from_is_err_and}
use Rattle.groups.proofs.Reading.{number_end, number-none, number_large, number_last, number_long, number-joined, value_at_lem}
use Rattle.groups.proofs.scan.+read_groups.Goals as goal

pub returns-then-s-at : goal.returns-then-s-at
returns-then-s-at t c = let a = c.args in number_end a.left a.most a.at a.s.now (omega arith)

pub returns-then-left-eq0 : goal.returns-then-left-eq0
returns-then-left-eq0 t c = let a = c.args in number-none a.left a.most a.at a.s.now (omega arith) (omega arith)

pub returns-then-most-b : goal.returns-then-most-b
returns-then-most-b t c =
    let a = c.args in
    number_large a.left a.most a.at a.s.now c.wide-b.result (omega arith) (λ e. omega arith) c.wide-b.ensures.value (omega arith)

pub returns-then-b-lt128 : goal.returns-then-b-lt128
returns-then-b-lt128 t c =
    let a = c.args in
    number_last a.left a.most a.at a.s.now c.wide-b.result (omega arith) (λ e. omega arith) c.wide-b.ensures.value (omega arith) (omega arith)

pub returns-then-left-eq1 : goal.returns-then-left-eq1
returns-then-left-eq1 t c =
    let a = c.args in
    number_long a.left a.most a.at a.s.now c.wide-b.result (omega arith) (λ e. omega arith) c.wide-b.ensures.value (omega arith) (omega arith) (omega arith)

pub returns-in_err-rest : goal.returns-in_err-rest
returns-in_err-rest t c =
    let a = c.args in
    let p = err_from_is_err_and c.from_residual.result c.from_residual.ensures.1 in
    rw (p.1, p.2) (number-joined a.left a.most a.at a.s.now c.wide-b.result (omega arith) (λ e. omega arith) c.wide-b.ensures.value (omega arith) (omega arith) (λ e. omega arith) c.in_err-rest.ensures refl)

pub returns-then-rest-eq0 : goal.returns-then-rest-eq0
returns-then-rest-eq0 t c = let a = c.args in rw (eq-eqb c.in_ok-rest.rest 0 (omega arith)) at (number-joined a.left a.most a.at a.s.now c.wide-b.result (omega arith) (λ e. omega arith) c.wide-b.ensures.value (omega arith) (omega arith) (λ e. omega arith) c.in_ok-rest.ensures refl)

pub overflow_mul-result : goal.overflow_mul-result
overflow_mul-result t c = let a = c.args in omega (arith, (value_at_lem (a.left - 1) ((a.most - (c.wide-b.result - 128)) / 128) (a.at + 1) a.s.now _ c.in_ok-rest.rest c.in_ok-rest.groups c.in_ok-rest.ensures refl).small)

pub overflow_add-result-2 : goal.overflow_add-result-2
overflow_add-result-2 t c = let a = c.args in omega (arith, (value_at_lem (a.left - 1) ((a.most - (c.wide-b.result - 128)) / 128) (a.at + 1) a.s.now _ c.in_ok-rest.rest c.in_ok-rest.groups c.in_ok-rest.ensures refl).small)

pub overflow_add-result-3 : goal.overflow_add-result-3
overflow_add-result-3 t c = let a = c.args in omega (arith, (value_at_lem (a.left - 1) ((a.most - (c.wide-b.result - 128)) / 128) (a.at + 1) a.s.now _ c.in_ok-rest.rest c.in_ok-rest.groups c.in_ok-rest.ensures refl).inside)

pub returns : goal.returns
returns t c = let a = c.args in rw (ne_eqb c.in_ok-rest.rest 0 (λ e. omega arith)) at (number-joined a.left a.most a.at a.s.now c.wide-b.result (omega arith) (λ e. omega arith) c.wide-b.ensures.value (omega arith) (omega arith) (λ e. omega arith) c.in_ok-rest.ensures refl)
