-- `groups::writes::put_number` meets its contract. Assumes nothing.
use mathlib.Core.Path.{sym, ◌∙◌}
use native.Mathlib.Omega.{arith}
use Rattle.groups.proofs.Writing.{put-fits, put_no_room}
use Rattle.groups.proofs.writes.put_number.Goals as goal

pub returns-then-out-at : goal.returns-then-out-at
returns-then-out-at c =
    let a = c.args in
    let none = put_no_room a.out.now a.at a.v (omega arith) in
    record { value = sym none.0; out_after = sym none.1 }

pub returns-then-out-at-2 : goal.returns-then-out-at-2
returns-then-out-at-2 c =
    let a = c.args in
    let none = put_no_room a.out.now a.at a.v (omega (arith, c.number_size-size.ensures)) in
    record { value = sym none.0; out_after = sym none.1 }

pub returns : goal.returns
returns c =
    let a = c.args in
    let size = c.number_size-size.ensures in
    let all = put-fits a.out.now a.at a.v (omega arith) in
    record { value = size ∙ sym all.0; out_after = c.fill.ensures ∙ sym all.1 }
