-- `texts::plans::put_starts` meets its contract. Assumes nothing.
use Rattle.std.proofs.Common.{◌≡◌, ℕ, List, length, sym, subst, arith}
use Rattle.texts.specs.Text.{Written}
use Rattle.texts.specs.Plans.{starts_text}
use Rattle.texts.proofs.Texts.{followed, nothing}
use Rattle.texts.proofs.PlanLines.{starts_none, starts_more, start_room}
use Rattle.texts.proofs.plans.put_starts.Goals as goal

pub loop-start-init : goal.loop-start-init
loop-start-init c =
    let a = c.args in
    nothing a.out.now a.at (starts_text a.starts.now 0) (starts_none a.starts.now)

pub put_start-next-requires : goal.put_start-next-requires
put_start-next-requires c = start_room c.args.starts.now c.loop-start.start-index (omega arith) c.loop-start.invariant c.requires

pub loop-start-preserved : goal.loop-start-preserved
loop-start-preserved c =
    let a = c.args in
    let l = c.loop-start in
    subst (λ (text : List ℕ). Written a.out.now a.at text c.put_start-next.new.out c.put_start-next.result) (sym (starts_more a.starts.now l.start-index)) (followed l.invariant c.put_start-next.ensures)

pub returns : goal.returns
returns c =
    let a = c.args in
    let l = c.loop-start in
    let e : l.start-index ≡ length a.starts.now = omega arith in
    subst (λ (n : ℕ). Written a.out.now a.at (starts_text a.starts.now n) l.out l.next) e l.invariant
