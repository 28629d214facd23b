-- Demand 3, as specs/Demand3.antt states it. Assumes nothing.
use Rattle.shape.specs.Answers.{Outcome}
use Rattle.std.specs.Prelude.{Ok, Err, Option, Some, None}
use Prim.Native.Nat.{ℕ, zero, suc, ◌+◌, ◌-◌, ◌<◌, ◌≤◌}
use native.Mathlib.Omega.{arith}
use mathlib.Core.Path.{◌≡◌, refl, ap, ◌∙◌}
use mathlib.Core.List.{List, map}
use lib.ListN.{length, take, drop}
use Rattle.shape.specs.Layout.{size}
use Rattle.picture.specs.Hearing.{hearing}
use Rattle.history.specs.Standing.{Frame, Event, hear, back, deepest, kept, outcome_of, granted, answered}
use Rattle.history.specs.Demand3.{doing, runs_bytes}
use Rattle.history.proofs.Demand3.{demand_3 as shows_standing}
use Rattle.history.proofs.Depth.{depths_named, kept_to_depth, none_at_zero}
use Rattle.history.proofs.Sentence.{sentence, sentence_decides}
use Rattle.history.proofs.ModulesListed.{in_order, listed_is}
use Rattle.history.proofs.Effects.{back_over, room_used_again}
use Rattle.questions.proofs.RowBytes.{rows_are_bytes}
use Rattle.questions.proofs.Counts.{count_is_of_row}
use Rattle.history.proofs.Names.{whole_is_sixteen}
use Rattle.recording.specs.Record.{Entry, End, Broken, read_record}
use Rattle.recording.proofs.Entries.{records_are_whole, only_past_end}
use Rattle.replay.specs.Replay.{Run, is_done, one, heard_by, replayed, run_step, run_from}
use Rattle.replay.proofs.Runs.{standing, stops}
use Rattle.replay.proofs.AllTurns.{turns_are_replay}
use Rattle.replay.proofs.Rooms.{all_is_replay, call_is_turn}
use Rattle.demands.specs.Demand3.{back_after, Granted, NotGranted, frames_by, frames_from, stop_by, stop_from, fault_of, offset_of, stopped_at, accepting, refusing, counting, RecordingsHeard, Demand3}

-- ---- a step back
back_answer : (b : List ℕ) → size ≤ length b → (d : ℕ) → d ≤ deepest → (h : List Event) → back_after b d h ≡ outcome_of (granted (kept d h))
unfolding answered
back_answer b whole d allowed h = (shows_standing b whole d allowed h).next back

granted_above : (k : ℕ) → 0 < k → outcome_of (granted k) ≡ Ok tt
unfolding outcome_of granted
granted_above zero h = absurd (omega arith)
granted_above (suc k) h = refl

is_granted : Granted
is_granted b whole d allowed h e = back_answer b whole d allowed h ∙ granted_above (kept d h) e

is_not_granted : NotGranted
unfolding outcome_of granted
is_not_granted b whole d allowed h e = back_answer b whole d allowed h ∙ ap (λ (k : ℕ). outcome_of (granted k)) e

-- ---- recordings
accepted_one : (o : Outcome) → one (is_done o) ≡ accepting o
accepted_one (Ok tt) = refl
accepted_one (Err n) = refl

refused-one : (o : Outcome) → 1 - one (is_done o) ≡ refusing o
refused-one (Ok tt) = refl
refused-one (Err n) = refl

-- a run over records is their frames heard, and its counts are those before it and of these
record Heard (r : Run) (b : List ℕ) (heard refused : ℕ) (fs : List Frame) : Type 0 where
  picture : r.picture ≡ runs_bytes b (map hear fs)
  heard_is : r.replay.heard ≡ heard + counting accepting b fs
  refused_is : r.replay.refused ≡ refused + counting refusing b fs

module _ (s : List ℕ) where
  heard_from_lem : (steps : ℕ) (b : List ℕ) (heard refused at : ℕ) → Heard (run_from heard_by steps s b heard refused at) b heard refused (frames_from steps s at)
  unfolding run_from frames_from runs_bytes counting doing heard_by
  heard_from_lem zero b heard refused at = record { picture = refl; heard_is = omega arith; refused_is = omega arith }
  heard_from_lem (suc steps) b heard refused at = by-entry (run_from heard_by steps s) (frames_from steps s) (heard_from_lem steps) b heard refused at (read_record s at)
    where
      by-entry : (rest : List ℕ → ℕ → ℕ → ℕ → Run) (frames : ℕ → List Frame)
          → ((b : List ℕ) (heard refused next : ℕ) → Heard (rest b heard refused next) b heard refused (frames next))
          → (b : List ℕ) (heard refused at : ℕ) (e : Entry) → Heard (run_step heard_by rest s b heard refused at e) b heard refused (frames_by frames s e)
      by-entry rest frames f b heard refused at (Ok (Some r)) =
          let a = hearing b r.identifier r.remote (take r.len (drop r.start s)) in
          let h = f a.buffer (heard + one (is_done a.outcome)) (refused + (1 - one (is_done a.outcome))) r.next in
          record {
            picture = h.picture;
            heard_is = omega (arith, h.heard_is, accepted_one a.outcome);
            refused_is = omega (arith, h.refused_is, refused-one a.outcome);
          }
      by-entry rest frames f b heard refused at End = record { picture = refl; heard_is = omega arith; refused_is = omega arith }
      by-entry rest frames f b heard refused at (Err fault) = record { picture = refl; heard_is = omega arith; refused_is = omega arith }

  -- a run that reaches the end of the records has the fault that stands there
  abbrev Stopped : Run → Entry → Type 0
  Stopped r e = r.replay.fault ≡ fault_of e

  stopped_from : (steps : ℕ) (b : List ℕ) (heard refused at : ℕ) → at ≤ length s → length s < steps + at → Stopped (run_from heard_by steps s b heard refused at) (stop_from steps s at)
  unfolding run_from stop_from
  stopped_from zero b heard refused at inside enough = absurd (omega arith)
  stopped_from (suc steps) b heard refused at inside enough =
      by-entry (read_record s at) refl (λ b heard refused next l m. stopped_from steps b heard refused next l (omega arith))
    where
      by-entry : (e : Entry) → read_record s at ≡ e
          → ((b : List ℕ) (heard refused next : ℕ) → next ≤ length s → at < next → Stopped (run_from heard_by steps s b heard refused next) (stop_from steps s next))
          → Stopped (run_step heard_by (run_from heard_by steps s) s b heard refused at e) (stop_by (stop_from steps s) e)
      by-entry (Ok (Some r)) e again =
          let w = records_are_whole s at r.gap r.identifier r.remote r.start r.len r.next e in
          again _ _ _ r.next w.inside (omega (arith, w.starts, w.ends))
      by-entry End e again = refl
      by-entry (Err fault) e again = refl

  -- one with no fault was read to the end
  read_whole : (b : List ℕ) → (replayed heard_by b s).replay.fault ≡ None → (replayed heard_by b s).replay.at ≡ length s
  read_whole b none =
      let r = (replayed heard_by b s).replay in
      let t = stops heard_by s b in
      let past : length s ≤ r.at = only_past_end s r.at (t.there ∙ ap standing none) in
      omega (arith, t.inside, past)

  offset_by : (at : ℕ) (fault : Option (ℕ × ℕ)) (e : Entry) → fault ≡ fault_of e → (fault ≡ None → at ≡ length s) → stopped_at at fault ≡ offset_of s e
  offset_by at fault (Ok entry) e whole = ap (stopped_at at) e ∙ whole e
  offset_by at fault (Err stop) e whole = ap (stopped_at at) e

recordings_heard : RecordingsHeard
recordings_heard b s =
    let h = heard_from_lem s (suc (length s)) b 0 0 0 in
    let f = stopped_from s (suc (length s)) b 0 0 0 (omega arith) (omega arith) in
    record { picture = h.picture; heard = omega (arith, h.heard_is); refused = omega (arith, h.refused_is); fault = f; offset = offset_by s _ _ _ f (read_whole s b); whole = read_whole s b }

pub demand_3 : Demand3
demand_3 =
    record {
      shows_standing = shows_standing;
      whole_is_sixteen = whole_is_sixteen;
      count_is_of_row = count_is_of_row;
      rows_are_bytes = rows_are_bytes;
      sentence = sentence;
      sentence_decides = sentence_decides;
      in_order = in_order;
      granted = is_granted;
      not_granted = is_not_granted;
      depths_named = depths_named;
      kept_to_depth = kept_to_depth;
      none_at_zero = none_at_zero;
      back_over = back_over;
      room_used_again = room_used_again;
      listed_is = listed_is;
      recordings_heard = recordings_heard;
      turns_are_replay = turns_are_replay;
      all_is_replay = all_is_replay;
      call_is_turn = call_is_turn;
    }
