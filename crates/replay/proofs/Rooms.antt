-- Laws of the calls that need room: a picture too short, a window too short, and room enough.
--     replay_refused, replay_heard                             of `hear_all`
--     part_no_picture, part_no_room, part_heard                of `hear_part`
--     all_is_replay, call_is_turn
-- Assumes nothing.
use Rattle.std.proofs.Common.{◌≡◌, ℕ, ◌+◌, ◌<◌, ◌≤◌, List, length, sym, le-ltb, lt-ltb, le-leb}
use borrow.Author.Tests.{lt-leb}
use Rattle.laws.specs.Refusals.{too_short}
use Rattle.shape.specs.Layout.{size}
use Rattle.std.specs.Prelude.{Ok, Err}
use Rattle.replay.specs.Replay.{heard_by, replayed, replay_answer, replay_picture}
use Rattle.replay.specs.Window.{Stream, turn_over, heard_stream, heard_window, part_answer, part_picture, part_window}
use Rattle.replay.specs.Statements.{AllIsReplay, CallIsTurn}

module _ (b s : List ℕ) where
  pub replay_refused : length b < size → (Err too_short ≡ replay_answer b s) × (b ≡ replay_picture b s)
  unfolding replay_answer replay_picture
  replay_refused h = let e = lt-ltb (length b) size h in (rw e, rw e)

  pub replay_heard : size ≤ length b → (Ok (replayed heard_by b s).replay ≡ replay_answer b s) × ((replayed heard_by b s).picture ≡ replay_picture b s)
  unfolding replay_answer replay_picture
  replay_heard h = let e = le-ltb (length b) size h in (rw e, rw e)

module _ (b w : List ℕ) (st : Stream) (n : ℕ) where
  abbrev pub PartRefused : Type 0
  PartRefused = (Err too_short ≡ part_answer b w st n) × ((b ≡ part_picture b w st n) × (w ≡ part_window b w st n))

  pub part_no_picture : length b < size → PartRefused
  unfolding part_answer part_picture part_window
  part_no_picture h = let e = lt-ltb (length b) size h in (rw e, (rw e, rw e))

  pub part_no_room : size ≤ length b → length w < st.left + n → PartRefused
  unfolding part_answer part_picture part_window
  part_no_room h l =
      let e = le-ltb (length b) size h in
      let f = lt-leb (st.left + n) (length w) l in
      (rw (e, f), (rw (e, f), rw (e, f)))

  pub part_heard : size ≤ length b → st.left + n ≤ length w
      → (Ok (heard_stream heard_by b w st n) ≡ part_answer b w st n)
      × (((turn_over heard_by b w st n).picture ≡ part_picture b w st n) × (heard_window heard_by b w st n ≡ part_window b w st n))
  unfolding part_answer part_picture part_window
  part_heard h l =
      let e = le-ltb (length b) size h in
      let f = le-leb (st.left + n) (length w) l in
      (rw (e, f), (rw (e, f), rw (e, f)))

pub all_is_replay : AllIsReplay
all_is_replay b s h = let r = replay_heard b s h in (sym r.0, sym r.1)

pub call_is_turn : CallIsTurn
call_is_turn b w st n h l = let r = part_heard b w st n h l in (sym r.0, sym r.1.0, sym r.1.1)
