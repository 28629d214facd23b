-- Laws of replaying a slice.
--     run_on_lem, run-ended, run-broken    a turn of the loop, and its end
--     fuel              more steps than there are bytes left change nothing
--     stops_inside, little_is_left        where a replay stops
--     one_or_none       a record adds at most 1
-- Assumes nothing.
use Rattle.std.proofs.Common.{◌≡◌, ℕ, zero, suc, ◌+◌, ◌-◌, ◌<◌, ◌≤◌, Bool, true, false, List, length, take, drop, sym, refl, ap, ◌∙◌, arith, ne_eqb}
use Rattle.std.specs.Prelude.{◌≢◌, Option, Some, None, Ok, Err}
use Rattle.laws.specs.Refusals.{bad_number}
use Rattle.recording.specs.Record.{Entry, recorded, End, read_record}
use Rattle.recording.specs.Window.{settled}
use Rattle.recording.proofs.Entries.{records_are_whole, leftover_is_short, past_end}
use Rattle.replay.specs.Replay.{Hearing, Run, one, stopped, counted, run_step, run_from, run_on, replayed}
use Rattle.replay.specs.Statements.{StopsInside, LittleIsLeft}

pub one_or_none : (t : Bool) → one t ≤ 1
one_or_none true = omega arith
one_or_none false = omega arith

-- what stands where a replay stopped
abbrev pub standing : Option (ℕ × ℕ) → Entry
standing None = End
standing (Some fault) = Err fault

module _ (hear : Hearing) (s : List ℕ) where
  -- what goes on from a later offset, alike in two ways, goes on alike from here
  step-alike : (rest rest' : List ℕ → ℕ → ℕ → ℕ → Run) (b : List ℕ) (heard refused at : ℕ)
      → ((b : List ℕ) (heard refused next : ℕ) → at < next → rest b heard refused next ≡ rest' b heard refused next)
      → run_step hear rest s b heard refused at (read_record s at) ≡ run_step hear rest' s b heard refused at (read_record s at)
  step-alike rest rest' b heard refused at f = go (read_record s at) refl
    where
      go : (e : Entry) → read_record s at ≡ e → run_step hear rest s b heard refused at e ≡ run_step hear rest' s b heard refused at e
      go (Ok (Some r)) e =
          let w = records_are_whole s at r.gap r.identifier r.remote r.start r.len r.next e in
          f _ _ _ r.next (omega (arith, w.starts, w.ends))
      go End e = refl
      go (Err fault) e = refl

  pub fuel : (f g : ℕ) (b : List ℕ) (heard refused at : ℕ) → length s < f + at → length s < g + at → run_from hear f s b heard refused at ≡ run_from hear g s b heard refused at
  unfolding run_from
  fuel zero zero b heard refused at hf hg = refl
  fuel zero (suc g) b heard refused at hf hg = sym (ap (run_step hear (run_from hear g s) s b heard refused at) (past_end s at (omega arith)))
  fuel (suc f) zero b heard refused at hf hg = ap (run_step hear (run_from hear f s) s b heard refused at) (past_end s at (omega arith))
  fuel (suc f) (suc g) b heard refused at hf hg =
      step-alike (run_from hear f s) (run_from hear g s) b heard refused at (λ b heard refused next h. fuel f g b heard refused next (omega arith) (omega arith))

  -- a turn of the loop
  module _ (b : List ℕ) (heard refused at : ℕ) where
    at_entry : (e : Entry) → read_record s at ≡ e → run_on hear s b heard refused at ≡ run_step hear (run_from hear (length s) s) s b heard refused at e
    unfolding run_from
    at_entry e q = ap (run_step hear (run_from hear (length s) s) s b heard refused at) q

    pub run_heard : (gap identifier remote start len next : ℕ) → read_record s at ≡ recorded gap identifier remote start len next
        → run_on hear s b heard refused at ≡ counted (run_on hear s) (hear b identifier remote (take len (drop start s))) heard refused next
    run_heard gap identifier remote start len next e =
        let w = records_are_whole s at gap identifier remote start len next e in
        at_entry (recorded gap identifier remote start len next) e
        ∙ fuel (length s) (suc (length s)) _ _ _ next (omega (arith, w.starts, w.ends)) (omega arith)

    -- the same, by what hearing answered
    pub run_on_lem : (gap identifier remote start len next accepted : ℕ) (b' ds : List ℕ) → read_record s at ≡ recorded gap identifier remote start len next → ds ≡ take (start + len - start) (drop start s)
        → accepted ≡ one (hear b identifier remote ds).accepted → b' ≡ (hear b identifier remote ds).picture
        → run_on hear s b heard refused at ≡ run_on hear s b' (heard + accepted) (refused + (1 - accepted)) next
    run_on_lem gap identifier remote start len next accepted b' ds e part answer left =
        let n : len ≡ start + len - start = omega arith in
        let same : take len (drop start s) ≡ ds = ap (λ (k : ℕ). take k (drop start s)) n ∙ sym part in
        run_heard gap identifier remote start len next e
        ∙ ap (λ (l : List ℕ). counted (run_on hear s) (hear b identifier remote l) heard refused next) same
        ∙ (λ i. run_on hear s (sym left i) (heard + sym answer i) (refused + (1 - sym answer i)) next)

    pub run-ended : read_record s at ≡ End → run_on hear s b heard refused at ≡ stopped b heard refused at None
    run-ended e = at_entry End e

    pub run-broken : (fault : ℕ × ℕ) → read_record s at ≡ Err fault → run_on hear s b heard refused at ≡ stopped b heard refused at (Some fault)
    run-broken fault e = at_entry (Err fault) e

  -- what stands where a run stopped is what the run says
  pub record Stops (r : Run) : Type 0 where
    pub inside : r.replay.at ≤ length s
    pub there : read_record s r.replay.at ≡ standing r.replay.fault

  stops_from : (f : ℕ) (b : List ℕ) (heard refused at : ℕ) → at ≤ length s → length s < f + at → Stops (run_from hear f s b heard refused at)
  unfolding run_from
  stops_from zero b heard refused at l h = absurd (omega arith)
  stops_from (suc f) b heard refused at l h = go (read_record s at) refl (λ b heard refused next l m. stops_from f b heard refused next l (omega arith))
    where
      go : (e : Entry) → read_record s at ≡ e → ((b : List ℕ) (heard refused next : ℕ) → next ≤ length s → at < next → Stops (run_from hear f s b heard refused next))
          → Stops (run_step hear (run_from hear f s) s b heard refused at e)
      go (Ok (Some r)) e again =
          let w = records_are_whole s at r.gap r.identifier r.remote r.start r.len r.next e in
          again _ _ _ r.next w.inside (omega (arith, w.starts, w.ends))
      go End e again = record { inside = l; there = e }
      go (Err fault) e again = record { inside = l; there = e }

  pub stops : (b : List ℕ) → Stops (replayed hear b s)
  stops b = stops_from (suc (length s)) b 0 0 0 (omega arith) (omega arith)

pub stops_inside : StopsInside
stops_inside hear b s = (stops hear s b).inside

pub little_is_left : LittleIsLeft
little_is_left hear b s fine =
    let r = (replayed hear b s).replay in
    leftover_is_short s r.at (ap settled (stops hear s b).there ∙ unsettled r.fault fine)
  where
    unsettled : (f : Option (ℕ × ℕ)) → ((p : ℕ) → f ≢ Some (bad_number, p)) → settled (standing f) ≡ false
    unsettled None fine = refl
    unsettled (Some (refusal, offset)) fine = ne_eqb refusal bad_number (λ e. fine offset (λ i. Some (e i, offset)))
