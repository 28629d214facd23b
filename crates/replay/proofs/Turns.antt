-- An input heard in parts is the input heard as a whole.
--     goes_on           with more input after s, a replay goes on where that of s stopped
--     moves_on          a replay further on, with records before it
--     runs_follow, bad_number_ends, parts_are_whole
-- Assumes nothing.
use Rattle.std.proofs.Common.{◌≡◌, ℕ, zero, suc, ◌+◌, ◌-◌, List, [], ◌∷◌, ◌++◌, length, take, drop, sym, refl, ap, ◌∙◌, append_assoc, append-nil, arith, length-append, length-drop, take-append-drop, length-take-le, drop-drop}
use Rattle.std.specs.Prelude.{Some, None, Ok, Err}
use lib.Seq.{take-append-le, drop-append-le, drop-append-add, drop-nil}
use Rattle.laws.specs.Refusals.{bad_number}
use Rattle.recording.specs.Record.{Entry, End, read_record}
use Rattle.recording.specs.Window.{settled, further}
use Rattle.recording.proofs.Entries.{records_are_whole, past_end}
use Rattle.recording.proofs.Windows.{window_settles, window_moves}
use Rattle.replay.specs.Replay.{Hearing, Heard, Run, one, stopped, counted, run_step, run_from, run_on, replayed}
use Rattle.replay.specs.Window.{fault_further}
use Rattle.replay.specs.Parts.{then, Parts, no_parts, next_run, one_part, all_parts, joined}
use Rattle.replay.specs.Statements.{RunsFollow, PartsAreWhole, BadNumberEnds}
use Rattle.replay.proofs.Runs.{standing, fuel, run_heard, run-ended, run-broken, stops, stops_inside}

module _ (hear : Hearing) (s t : List ℕ) where
  -- the replay of the whole, from an offset, goes on from where the run r of s stopped
  Goes : List ℕ → ℕ → ℕ → ℕ → Run → Type 0
  Goes b heard refused at r = run_on hear (s ++ t) b heard refused at ≡ run_on hear (s ++ t) r.picture r.replay.heard r.replay.refused r.replay.at

  goes : (f : ℕ) (b : List ℕ) (heard refused at : ℕ) → Goes b heard refused at (run_from hear f s b heard refused at)
  unfolding run_from Goes
  goes zero b heard refused at = refl
  goes (suc f) b heard refused at = go (read_record s at) refl (λ b heard refused next. goes f b heard refused next)
    where
      go : (e : Entry) → read_record s at ≡ e → ((b : List ℕ) (heard refused next : ℕ) → Goes b heard refused next (run_from hear f s b heard refused next))
          → Goes b heard refused at (run_step hear (run_from hear f s) s b heard refused at e)
      go (Ok (Some r)) e again =
          let w = records_are_whole s at r.gap r.identifier r.remote r.start r.len r.next e in
          let same : read_record (s ++ t) at ≡ Ok (Some r) = window_settles s t at (ap settled e) ∙ e in
          let ds : take r.len (drop r.start (s ++ t)) ≡ take r.len (drop r.start s) =
          ap (take r.len) (drop-append-le r.start s t (omega (arith, w.ends, w.inside))) ∙ take-append-le r.len (drop r.start s) t (omega (arith, length-drop r.start s, w.ends, w.inside)) in
          run_heard hear (s ++ t) b heard refused at r.gap r.identifier r.remote r.start r.len r.next same
          ∙ ap (λ (l : List ℕ). counted (run_on hear (s ++ t)) (hear b r.identifier r.remote l) heard refused r.next) ds
          ∙ again _ _ _ r.next
      go End e again = refl
      go (Err fault) e again = refl

  goes_on : (b : List ℕ) → Goes b 0 0 0 (replayed hear b s)
  goes_on b = goes (suc (length s)) b 0 0 0

  -- a bad number ends the replay, whatever follows
  bad_stays : (b : List ℕ) (p : ℕ) → (replayed hear b s).replay.fault ≡ Some (bad_number, p) → replayed hear b (s ++ t) ≡ replayed hear b s
  unfolding Goes
  bad_stays b p bad =
      let r : Run = replayed hear b s in
      let here : read_record s r.replay.at ≡ Err (bad_number, p) = (stops hear s b).there ∙ ap standing bad in
      let same : read_record (s ++ t) r.replay.at ≡ Err (bad_number, p) = window_settles s t r.replay.at (ap settled here) ∙ here in
      goes_on b
      ∙ run-broken hear (s ++ t) r.picture r.replay.heard r.replay.refused r.replay.at (bad_number, p) same
      ∙ (λ i. stopped r.picture r.replay.heard r.replay.refused r.replay.at (sym bad i))

-- a run further on: offsets by k, and counts by what was heard and refused before
abbrev ahead : ℕ → ℕ → ℕ → Run → Run
ahead k c d r = stopped r.picture (c + r.replay.heard) (d + r.replay.refused) (k + r.replay.at) (fault_further k r.replay.fault)

moves_on : (hear : Hearing) (p s : List ℕ) (c d f : ℕ) (b : List ℕ) (heard refused at : ℕ)
    → run_from hear f (p ++ s) b (c + heard) (d + refused) (length p + at) ≡ ahead (length p) c d (run_from hear f s b heard refused at)
unfolding run_from
moves_on hear p s c d zero b heard refused at = refl
moves_on hear p s c d (suc f) b heard refused at =
    ap (run_step hear (run_from hear f (p ++ s)) (p ++ s) b (c + heard) (d + refused) (length p + at)) (window_moves p s at) ∙ go (read_record s at) (λ b heard refused next. moves_on hear p s c d f b heard refused next)
  where
    go : (e : Entry) → ((b : List ℕ) (heard refused next : ℕ) → run_from hear f (p ++ s) b (c + heard) (d + refused) (length p + next) ≡ ahead (length p) c d (run_from hear f s b heard refused next))
        → run_step hear (run_from hear f (p ++ s)) (p ++ s) b (c + heard) (d + refused) (length p + at) (further (length p) e) ≡ ahead (length p) c d (run_step hear (run_from hear f s) s b heard refused at e)
    go (Ok (Some r)) again =
        let ds : take r.len (drop (length p + r.start) (p ++ s)) ≡ take r.len (drop r.start s) = ap (take r.len) (drop-append-add p s r.start) in
        let h : Heard = hear b r.identifier r.remote (take r.len (drop r.start s)) in
        let n₁ : c + heard + one h.accepted ≡ c + (heard + one h.accepted) = omega arith in
        let n₂ : d + refused + (1 - one h.accepted) ≡ d + (refused + (1 - one h.accepted)) = omega arith in
        ap (λ (l : List ℕ). counted (run_from hear f (p ++ s)) (hear b r.identifier r.remote l) (c + heard) (d + refused) (length p + r.next)) ds
        ∙ (λ i. run_from hear f (p ++ s) h.picture (n₁ i) (n₂ i) (length p + r.next))
        ∙ again h.picture (heard + one h.accepted) (refused + (1 - one h.accepted)) r.next
    go End again = refl
    go (Err fault) again = refl

pub runs_follow : RunsFollow
unfolding Goes
runs_follow hear b s t =
    let r : Run = replayed hear b s in
    let at : ℕ = r.replay.at in
    let p : List ℕ = take at s in
    let w : List ℕ = drop at s ++ t in
    let F : ℕ = suc (length (s ++ t)) in
    let n : length p ≡ at = length-take-le at s (stops_inside hear b s) in
    let whole : s ++ t ≡ p ++ w = ap (λ (l : List ℕ). l ++ t) (sym (take-append-drop at s)) ∙ append_assoc p (drop at s) t in
    let at-is : at ≡ length p + 0 = omega arith in
    let c-is : r.replay.heard ≡ r.replay.heard + 0 = omega arith in
    let d-is : r.replay.refused ≡ r.replay.refused + 0 = omega arith in
    let shorter : length (s ++ t) ≡ length p + length w = ap length whole ∙ length-append p w in
    goes_on hear s t b
    ∙ (λ i. run_from hear F (whole i) r.picture (c-is i) (d-is i) (at-is i))
    ∙ moves_on hear p w r.replay.heard r.replay.refused F r.picture 0 0 0
    ∙ ap (λ (k : ℕ). ahead k r.replay.heard r.replay.refused (run_from hear F w r.picture 0 0 0)) n
    ∙ ap (then r) (fuel hear w F (suc (length w)) r.picture 0 0 0 (omega arith) (omega arith))

pub bad_number_ends : BadNumberEnds
bad_number_ends hear b s t p bad = bad_stays hear s t b p bad

-- the parts so far make the input s: they come to its replay, and what it left is left
record Heard-of (hear : Hearing) (b s : List ℕ) (p : Parts) : Type 0 where
  total : p.total ≡ replayed hear b s
  left : p.left ≡ drop (replayed hear b s).replay.at s

one_more_lem : (hear : Hearing) (b s : List ℕ) (p : Parts) (part : List ℕ) → Heard-of hear b s p → Heard-of hear b (s ++ part) (one_part hear p part)
one_more_lem hear b s p part h =
    let r : Run = replayed hear b s in
    let next : Run = replayed hear r.picture (drop r.replay.at s ++ part) in
    let same : next_run hear p part ≡ next = λ i. replayed hear (h.total i).picture (h.left i ++ part) in
    let whole : replayed hear b (s ++ part) ≡ then r next = runs_follow hear b s part in
    let at : (replayed hear b (s ++ part)).replay.at ≡ r.replay.at + next.replay.at = ap (λ (x : Run). x.replay.at) whole in
    record {
      total = (λ i. then (h.total i) (same i)) ∙ sym whole;
      left =
          (λ i. drop (same i).replay.at (h.left i ++ part))
          ∙ ap (drop next.replay.at) (sym (drop-append-le r.replay.at s part (stops_inside hear b s)))
          ∙ drop-drop next.replay.at r.replay.at (s ++ part)
          ∙ ap (λ (n : ℕ). drop n (s ++ part)) (sym at);
    }

all_parts_lem : (hear : Hearing) (b s : List ℕ) (p : Parts) (parts : List (List ℕ)) → Heard-of hear b s p → (all_parts hear p parts).total ≡ replayed hear b (s ++ joined parts)
unfolding all_parts
all_parts_lem hear b s p [] h = h.total ∙ ap (replayed hear b) (sym (append-nil s))
all_parts_lem hear b s p (part ∷ parts) h =
    all_parts_lem hear b (s ++ part) (one_part hear p part) parts (one_more_lem hear b s p part h) ∙ ap (replayed hear b) (append_assoc s part (joined parts))

pub parts_are_whole : PartsAreWhole
parts_are_whole hear b parts =
    let none : replayed hear b [] ≡ stopped b 0 0 0 None = run-ended hear [] b 0 0 0 (past_end [] 0 (omega arith)) in
    all_parts_lem hear b [] (no_parts b) parts (record { total = sym none; left = sym (drop-nil (replayed hear b []).replay.at) })
