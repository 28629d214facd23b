-- `texts::plans::put_plan_in` meets its contract. Assumes nothing.
use Prim.Native.Nat.{◌%◌}
use native.Mathlib.Omega.{arith}
use mathlib.Core.Path.{sym, ap, ◌∙◌}
use borrow.Author.Rules.{rules}
use lib.ListN.{length, take}
use Rattle.questions.proofs.Replying.{both_of}
use Rattle.plan.specs.Replies.{memory_in}
use Rattle.texts.proofs.PlanLines.{line-short, line-fits, line-short-room, line-done}
use Rattle.texts.proofs.plans.put_plan_in.Goals as goal

pub returns-then-out-lt-PLAN_ROOM : goal.returns-then-out-lt-PLAN_ROOM
returns-then-out-lt-PLAN_ROOM c =
    let a = c.args in
    let both = both_of (line-short-room a.address.0 (memory_in a.picture.now a.slot) a.out.now c.if-out-lt-PLAN_ROOM.true) in record { value = both.0; out_after = both.1 }

pub slice_bounds-put_plan_line-end : goal.slice_bounds-put_plan_line-end
slice_bounds-put_plan_line-end c = sym (ap length c.planned-count.ensures.1 ∙ c.planned-count.ensures.2)

pub put_plan_line-requires : goal.put_plan_line-requires
put_plan_line-requires c = line-fits _ _ _ (omega (arith, ap length c.planned-count.ensures.1, c.planned-count.ensures.2, c.planned-count.ensures.0)) c.if-out-lt-PLAN_ROOM.false

pub overflow_cast-result : goal.overflow_cast-result
overflow_cast-result c =
    let a = c.args in
    omega (
      arith,
      c.put_plan_line.ensures.past,
      line-short (a.address.0 % 256) (take c.planned-count.result c.planned-count.new.starts) (omega (arith, ap length c.planned-count.ensures.1, c.planned-count.ensures.2, c.planned-count.ensures.0)),
    )

pub returns : goal.returns
returns c =
    let a = c.args in
    let both = both_of
    (line-done a.address.0 (memory_in a.picture.now a.slot) a.out.now c.if-out-lt-PLAN_ROOM.false c.planned-count.ensures.1 (omega (arith, c.planned-count.ensures.2, c.planned-count.ensures.0)) c.put_plan_line.ensures) in record { value = both.0; out_after = both.1 }
