-- The orders of a recording heard, whole and in parts, and of the listing. Assumes nothing.
use Prim.Native.Nat.{ℕ, ◌+◌}
use mathlib.Core.Path.{◌≡◌, refl}
use mathlib.Core.List.{List, [], ◌∷◌, ◌++◌}
use mathlib.Core.Bool.{cond}
use lib.Dec.{leb}
use lib.ListN.{length, drop}
use Rattle.laws.specs.Refusals.{too_short}
use Rattle.shape.specs.Head.{short}
use Rattle.std.specs.Prelude.{Ok, Err}
use Rattle.replay.specs.Replay.{heard_by, replayed, replay_answer, replay_picture, with_room}
use Rattle.replay.specs.Window.{turn_over, heard_stream, heard_window, part_answer, part_picture, part_window}
use Rattle.texts.specs.Listing.{listing_text, listing_answer, listing_bytes}
use Rattle.demands.specs.Order.{◌or◌, Verdict, answers, refuses, picture_test}
use Rattle.demands.specs.Demand1.{verdict_of_put, verdict_of_replayed, of_part, Verdicts, Replaying}
use Rattle.demands.proofs.Orders.{answers_refuses, by_test, by-fault}

-- a call that needs room: 13 for the picture, then 13 for the buffer
with_room_lem : {A : Type 0} (of : A → Verdict) (b before : List ℕ) (need have : ℕ) (refused done : A) (after : List ℕ) → of refused ≡ refuses too_short → of done ≡ answers
    → Verdicts (picture_test b ∷ leb need have or too_short ∷ []) before (of (with_room b need have refused done)) (with_room b need have before after)
with_room_lem of b before need have refused done after r d =
    by-fault (λ v. v) before too_short _
    (λ c. of (cond c refused (cond (leb need have) done refused))) (λ c. cond c before (cond (leb need have) after before)) (short b)
    (by_test (λ v. v) before too_short []
    (λ c. of (cond c done refused)) (λ c. cond c after before) (leb need have)
    (record { decides = d; keeps = λ n e. answers_refuses e }) r refl)
    r refl

pub replaying : Replaying
unfolding replay_answer replay_picture part_answer part_picture part_window listing_answer listing_bytes
replaying =
    record {
      hear_all = λ b s.
          by-fault (λ v. v) b too_short []
          (λ c. verdict_of_replayed (cond c (Err too_short) (Ok (replayed heard_by b s).replay))) (λ c. cond c b (replayed heard_by b s).picture)
          (short b)
          (record { decides = refl; keeps = λ n e. answers_refuses e }) refl refl;
      hear_part = λ b w st n. with_room_lem of_part b b (st.left + n) (length w) (Err too_short) (Ok (heard_stream heard_by b w st n)) (turn_over heard_by b w st n).picture refl refl;
      window = λ b w st n. with_room_lem of_part b w (st.left + n) (length w) (Err too_short) (Ok (heard_stream heard_by b w st n)) (heard_window heard_by b w st n) refl refl;
      put_listing = λ b out st.
          let text : List ℕ = listing_text b st in
          with_room_lem verdict_of_put b out (length text) (length out) (Err too_short) (Ok (length text)) (text ++ drop (length text) out) refl refl;
    }
