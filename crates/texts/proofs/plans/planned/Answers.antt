-- `texts::plans::planned` meets its contract. Assumes nothing.
use mathlib.Core.Path.{◌≡◌, refl, sym, ◌∙◌}
use lib.ListN.{length}
use Rattle.reads.specs.Plan.{plan_of}
use Rattle.plan.specs.Replies.{memory_in}
use Rattle.texts.proofs.PlanLines.{planned_so}
use Rattle.texts.proofs.plans.planned.Goals as goal

pub unwrap-count-requires : goal.unwrap-count-requires
unwrap-count-requires c =
    let a = c.args in
    let r = c.requires in
    rw (planned_so a.picture.now a.address.0 a.slot a.starts.now r.0 r.1 r.2 r.3 c.plan.ensures.value c.plan.ensures.starts_after).0

pub returns : goal.returns
returns c =
    let a = c.args in
    let r = c.requires in
    let so = planned_so a.picture.now a.address.0 a.slot a.starts.now r.0 r.1 r.2 r.3 c.plan.ensures.value c.plan.ensures.starts_after in
    let given = sym c.unwrap-count.ensures ∙ so.0 in
    let count : c.unwrap-count.result ≡ length (plan_of (memory_in a.picture.now a.slot)) = cc in
    rw count (so.1, so.2, refl)
