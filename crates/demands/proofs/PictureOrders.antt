-- The orders of hearing, of stepping back and of a fresh picture. Assumes nothing.
use Rattle.shape.specs.Answers.{Outcome}
use Rattle.std.specs.Prelude.{Ok, Err}
use Prim.Native.Nat.{ℕ}
use mathlib.Core.Path.{◌≡◌, refl, ◌∙◌}
use mathlib.Core.List.{List, [], ◌∷◌}
use mathlib.Core.Bool.{Bool, true, false, ◌||◌, cond}
use lib.Dec.{eqb, ltb}
use borrow.Author.Tests.{eqb-true, eqb-false}
use Rattle.laws.specs.Refusals.{no_room, nothing_kept, no_such_place, too_short}
use Rattle.kinds.specs.Types.{long_type, row_for}
use Rattle.frame.specs.Bytes.{byte}
use Rattle.frame.specs.Messages.{type_command}
use Rattle.judging.specs.Reading.{reading, Reading}
use Rattle.frame.specs.declared.messages.Command.TheVariants.{TypeLong, TypeShort}
use Rattle.shape.specs.Limits.{room, most_depth, bus_address}
use Rattle.places.specs.Runs.{Run, meaning_of, meant, read_as, command_of}
use Rattle.shape.specs.Result.{Result, refusing, done}
use Rattle.shape.specs.Head.{short, modules_of, kept_of, kind_in}
use Rattle.changes.specs.Telling.{naming}
use Rattle.modules.specs.Records.{exchanged_bytes, entered_bytes}
use Rattle.picture.specs.Hearing.{entering, hearing_as, hearing_at, hearing}
use Rattle.stores.specs.Stepping.{stepping_back}
use Rattle.steering.specs.Fresh.{fresh_bytes, freshening_with, freshening}
use Rattle.picture.proofs.Meant.{not_type, names_run, type_by}
use Rattle.history.specs.Standing.{Event, hear}
use Rattle.history.specs.Demand3.{doing}
use Rattle.history.proofs.Refused.{refused_keeps}
use Rattle.demands.specs.Order.{Test, ◌or◌, Verdict, answers, refuses, verdict, frame_order, picture_test, fresh_order, slot_heard, room_test, hearing_order, back_order}
use Rattle.demands.specs.Demand1.{verdict_of_outcome, Call, Pictures}
use Rattle.demands.proofs.Orders.{answers_refuses, call_fault, call_done, answer-fault}
use Rattle.demands.proofs.FrameOrders.{reader_order_lem}

refused_is : (o : Outcome) (n : ℕ) → verdict_of_outcome o ≡ refuses n → o ≡ Err n
refused_is (Ok tt) n e = answers_refuses e
refused_is (Err m) n e = cc

event_keeps : (e : Event) (b : List ℕ) (ts : List Test) → verdict_of_outcome (doing e b).outcome ≡ verdict ts → Call ts b (doing e b)
event_keeps e b ts d = record { decides = d; keeps = λ n q. refused_keeps e b n (refused_is (doing e b).outcome n (d ∙ q)) }

entering_order : (b : List ℕ) (s a kind t : ℕ) (r : Run)
    → verdict_of_outcome (entering b s a kind t r).outcome ≡ verdict ((ltb s room || ltb (modules_of b) room) or no_room ∷ [])
unfolding entering
entering_order b s a kind t r = go (ltb s room) (ltb (modules_of b) room)
  where
    go : (c d : Bool)
        → verdict_of_outcome (cond c (done (cond (eqb kind t) (naming b s r) (exchanged_bytes b s a t r))) (cond d (done (entered_bytes b a t r)) (refusing no_room b))).outcome
        ≡ cond (c || d) answers (refuses no_room)
    go true d = refl
    go false true = refl
    go false false = refl

module _ (b : List ℕ) (identifier remote : ℕ) (s : List ℕ) where
  abbrev slot : ℕ
  slot = slot_heard b identifier

  abbrev last : List Test
  last = room_test b identifier ∷ []

  abbrev kind : ℕ
  kind = kind_in b slot

  -- what is heard, by what is read
  abbrev of : Reading → Verdict
  of r = verdict_of_outcome (hearing_as b slot (bus_address identifier) kind (read_as kind r)).outcome

  -- FF, in either shape, enters a type, and every other command names a run
  type_order : eqb (byte 1 s) type_command ≡ true → verdict_of_outcome (hearing_as b slot (bus_address identifier) kind (meaning_of kind (command_of s))).outcome ≡ verdict last
  unfolding hearing_as meaning_of
  type_order q = rw (type_by s refl (eqb-true (byte 1 s) type_command q)) (go (eqb (row_for (byte 2 s) type_command).0 long_type))
    where
      go : (long : Bool)
          → verdict_of_outcome (hearing_as b slot (bus_address identifier) kind (meaning_of kind (cond long (TypeLong (byte 2 s) (byte 3 s) (byte 4 s) (byte 5 s) (byte 6 s) (byte 7 s)) (TypeShort (byte 2 s) (byte 3 s) (byte 4 s) (byte 5 s))))).outcome
          ≡ verdict last
      go true = entering_order b slot (bus_address identifier) kind (byte 2 s) _
      go false = entering_order b slot (bus_address identifier) kind (byte 2 s) _

  other_order : eqb (byte 1 s) type_command ≡ false → verdict_of_outcome (hearing_as b slot (bus_address identifier) kind (meaning_of kind (command_of s))).outcome ≡ answers
  unfolding hearing_as
  other_order q = rw (names_run kind s (not_type (byte 1 s) (eqb-false (byte 1 s) type_command q)))

  heard_order : of (reading kind identifier remote s) ≡ verdict (frame_order last kind identifier remote s)
  unfolding hearing_as read_as meant
  heard_order = reader_order_lem of (λ n. refl) last kind identifier remote s refl type_order other_order

  hears : Call (hearing_order b identifier remote s) b (hearing b identifier remote s)
  unfolding hearing hearing_at doing
  hears =
      event_keeps (hear (record { identifier = identifier; remote = remote; bytes = s })) b (hearing_order b identifier remote s)
      (answer-fault (λ (r : Result). verdict_of_outcome r.outcome) too_short (frame_order last kind identifier remote s)
      (hearing_at b slot identifier remote s) (refusing too_short b) heard_order refl (short b))

backs : (b : List ℕ) → Call (back_order b) b (stepping_back b)
unfolding stepping_back
backs b = call_fault b too_short _ _ (short b) (call_fault b nothing_kept [] _ (eqb (kept_of b) 0) (call_done b _))

-- no test of the depth is left where none is named
freshens : (b : List ℕ) → Call (picture_test b ∷ []) b (freshening b)
unfolding freshening freshening_with
freshens b = call_fault b too_short [] _ (short b) (call_done b (fresh_bytes b most_depth))

freshens_with : (b : List ℕ) (depth : ℕ) → Call (fresh_order b depth) b (freshening_with b depth)
unfolding freshening_with
freshens_with b depth = call_fault b too_short _ _ (short b) (call_fault b no_such_place [] _ (ltb most_depth depth) (call_done b (fresh_bytes b depth)))

pub pictures : Pictures
pictures = record { fresh = freshens; fresh_with = freshens_with; hear = hears; step_back = backs }
