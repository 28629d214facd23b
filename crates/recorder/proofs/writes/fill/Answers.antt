-- `recorder::writes::fill` meets its contract. Assumes nothing.
use Prim.Native.Nat.{◌+◌}
use mathlib.Core.Path.{◌∙◌}
use native.Mathlib.Omega.{arith}
use lib.ListN.{length, set, length-set}
use Rattle.laws.proofs.Copying.{copied_all}
use Rattle.recording.proofs.Ranges.{ranged}
use Rattle.recorder.proofs.Writing.{Headed, head-put, sets_record}
use Rattle.recorder.proofs.writes.fill.Goals as goal
use Rattle.recorder.proofs.writes.fill.Goals.{After-put_number}

-- what the two numbers left
head : (c : After-put_number) →
    let p = c.put_number-a in
    let q = c.put_number in
    let a = c.args in
    Headed a.out.now a.gap a.identifier a.remote (length a.«data».now) p.result q.result p.new.out q.new.out
head c =
    let p = c.put_number-a in
    let q = c.put_number in
    let a = c.args in
    head-put a.out.now a.«data».now a.gap a.identifier a.remote p.result q.result p.new.out q.new.out c.requires.data_in_bounds
    p.ensures.value p.ensures.out_after p.auto.out q.ensures.value q.ensures.out_after q.auto.out

pub overflow_mul-identifier : goal.overflow_mul-identifier
overflow_mul-identifier c =
    let a = c.args in
    let r = ranged a.gap a.identifier a.remote (length a.«data».now) c.requires.data_value in
    omega arith

pub overflow_add-identifier : goal.overflow_add-identifier
overflow_add-identifier c =
    let a = c.args in
    let r = ranged a.gap a.identifier a.remote (length a.«data».now) c.requires.data_value in
    omega arith

pub overflow_add-b : goal.overflow_add-b
overflow_add-b c = let h = head (goal.at.overflow_add-b c).After-put_number in omega arith

pub overflow_cast-out : goal.overflow_cast-out
overflow_cast-out c =
    let a = c.args in
    let r = ranged a.gap a.identifier a.remote (length a.«data».now) c.requires.data_value in
    omega arith

pub bounds-out-b : goal.bounds-out-b
bounds-out-b c = let h = head (goal.at.bounds-out-b c).After-put_number in omega arith

pub overflow_add-b-2 : goal.overflow_add-b-2
overflow_add-b-2 c = let h = head (goal.at.overflow_add-b-2 c).After-put_number in omega arith

pub shape_of-out : goal.shape_of-out
shape_of-out c = let h = head (goal.at.shape_of-out c).After-put_number in c.copy_in.auto.out ∙ (simp length-set h.same)

pub returns : goal.returns
returns c =
    let a = c.args in
    let p = c.put_number-a in
    let q = c.put_number in
    let d = c.copy_in in
    let h = head (goal.at.returns c).After-put_number in
    let at = p.result + q.result in
    sets_record a.out.now a.«data».now a.gap a.identifier a.remote p.result q.result p.new.out q.new.out d.new.out
    h.first h.second h.one h.two
    (d.ensures ∙ copied_all (set q.new.out at (length a.«data».now)) (at + 1) a.«data».now (simp length-set (omega arith)))
