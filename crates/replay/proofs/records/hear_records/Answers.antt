-- `replay::records::hear_records` meets its contract. The loop's invariant: the replay goes on from here. Assumes nothing.
use Rattle.std.proofs.Common.{◌≡◌, ◌+◌, ◌-◌, length, take, drop, sym, refl, ap, ◌∙◌, arith, rules}
use Rattle.recording.specs.Record.{told_fault}
use Rattle.std.specs.Prelude.{Ok}
use Rattle.recording.specs.Statements.{Whole}
use Rattle.recording.proofs.Entries.{records_are_whole}
use Rattle.replay.specs.Replay.{Run, one, heard_by}
use Rattle.replay.proofs.Runs.{run_on_lem, run-ended, run-broken, one_or_none}
use Rattle.replay.proofs.records.hear_records.Goals as goal
use Rattle.replay.proofs.records.hear_records.Goals.{In-Ok-Some}

-- the record that this turn read
took : (c : In-Ok-Some) → let r = c.in-Ok-Some.record in Whole (length c.args.s.now) c.loop-record.at r.gap r.identifier r.remote r.start r.len r.next
took c = let r = c.in-Ok-Some.record in records_are_whole c.args.s.now c.loop-record.at r.gap r.identifier r.remote r.start r.len r.next (sym c.in-Ok-Some.ensures ∙ ap Ok c.in-Ok-Some.field-0-is)

pub loop-record-init : goal.loop-record-init
loop-record-init c = (omega arith, omega arith, omega arith, refl, refl)

pub overflow_add-data : goal.overflow_add-data
overflow_add-data c = let w = took (goal.at.overflow_add-data c).In-Ok-Some in omega (arith, w.ends, w.inside)

pub slice_bounds-data-end : goal.slice_bounds-data-end
slice_bounds-data-end c = let w = took (goal.at.slice_bounds-data-end c).In-Ok-Some in search rules

pub loop-record-smaller : goal.loop-record-smaller
loop-record-smaller c = let w = took (goal.at.loop-record-smaller c).In-Ok-Some in omega (arith, w.starts, w.ends, w.inside)

pub loop-record-preserved : goal.loop-record-preserved
loop-record-preserved c =
    let w = took (goal.at.loop-record-preserved c).In-Ok-Some in
    let a = c.args in
    let l = c.loop-record in
    let r = c.in-Ok-Some.record in
    let h = c.hear_one-refused in
    let accepted = (heard_by l.picture r.identifier r.remote (take (r.start + r.len - r.start) (drop r.start a.s.now))).accepted in
    let few = one_or_none accepted in
    let refused : h.result ≡ l.refused + (1 - one accepted) = h.ensures.value in
    let heard : l.records - l.refused + one accepted ≡ l.records + 1 - h.result = omega (arith, few, refused, l.invariant.2) in (
      w.inside,
      omega (arith, l.invariant.1, w.starts, w.ends),
      omega (arith, refused, l.invariant.2),
      h.auto.picture ∙ l.invariant.3,
      l.invariant.4 ∙ rw (← heard, refused) (run_on_lem heard_by a.s.now l.picture (l.records - l.refused) l.refused l.at r.gap r.identifier r.remote r.start r.len r.next
          (one accepted) h.new.picture _ (sym c.in-Ok-Some.ensures ∙ ap Ok c.in-Ok-Some.field-0-is) refl refl h.ensures.picture_after),
    )

pub returns-in-Ok-None : goal.returns-in-Ok-None
returns-in-Ok-None c =
    let l = c.loop-record in
    let e = l.invariant.4 ∙ run-ended heard_by c.args.s.now l.picture (l.records - l.refused) l.refused l.at (sym c.in-Ok-None.ensures ∙ ap Ok c.in-Ok-None.field-0-is) in
    record { value = ap (λ (r : Run). r.replay) (sym e); picture_after = ap (λ (r : Run). r.picture) (sym e) }

pub returns-in-Err : goal.returns-in-Err
returns-in-Err c =
    let l = c.loop-record in
    let e = l.invariant.4 ∙ run-broken heard_by c.args.s.now l.picture (l.records - l.refused) l.refused l.at (told_fault c.in-Err.fault) (sym c.in-Err.ensures) in
    record { value = ap (λ (r : Run). r.replay) (sym e); picture_after = ap (λ (r : Run). r.picture) (sym e) }
