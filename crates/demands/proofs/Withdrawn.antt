-- No answer of any call is 14, as specs/Withdrawn.antt states it: no test of any order has that number. Assumes nothing.
use Rattle.layouts.specs.Parts.{Held}
use Rattle.std.specs.Prelude.{Some, None}
use Prim.Native.Nat.{ℕ, ◌+◌, ◌*◌, ◌/◌, ◌%◌, ◌<◌, ◌≤◌}
use native.Mathlib.Omega.{arith}
use mathlib.Core.Path.{◌≡◌, refl, ap, ◌∙◌}
use mathlib.Core.Logic.{◌⊎◌, inl, inr, ◌≢◌}
use mathlib.Core.List.{List, [], ◌∷◌, ◌++◌}
use mathlib.Core.Bool.{Bool, true, false, not, ◌&&◌, cond}
use lib.Dec.{eqb, leb}
use lib.ListN.{length}
use borrow.Author.Tests.{eqb-false, not-true}
use Rattle.laws.specs.Refusals.{cut_off, bad_number, too_short, not_whole, bad_field, code_at, number_in}
use Rattle.laws.proofs.Testing.{and_both}
use Rattle.frame.specs.Bytes.{byte}
use Rattle.frame.specs.Messages.{type_command}
use Rattle.codec.specs.Encoding.{encode}
use Rattle.fields.specs.Fields.{fault}
use Rattle.places.specs.Runs.{command_of}
use Rattle.frame.specs.declared.messages.Message.{Message}
use Rattle.frame.specs.declared.messages.Message.TheVariants.{TypeRequest, Tells}
use Rattle.shape.specs.Head.{kind_in}
use Rattle.questions.specs.Question.{Question, type_of, build_year, build_week, cell, led, blind, name_row, name_bytes, memory_row, memory_bytes}
use Rattle.questions.specs.Replies.{slot_asked}
use Rattle.recording.proofs.Entries.{faults_are_placed}
use Rattle.codec.specs.Writing.{frame_size}
use Rattle.results.specs.Words.{values}
use Rattle.layouts.specs.Layout.{message_size, held_in}
use Rattle.demands.specs.Order.{Test, ◌or◌, Verdict, answers, refuses, verdict, frame_order, reader_order, message_tests, writer_order, picture_test, fresh_order, room_test, kind_heard, hearing_order, back_order, listed_order, question_tests, question_order, right_order, plan_order, put_order, replay_order, part_order, listing_order, read_order, held_tests, write_order}
use Rattle.demands.specs.Demand1.{word_of}
use Rattle.demands.specs.Withdrawn.{Never, Withdrawn}
use Rattle.demands.proofs.Orders.{answers_refuses}

-- ---- no test has the number
abbrev absent : List Test → Bool
absent [] = true
absent (t ∷ ts) = not (eqb (number_in t.number) not_whole) && absent ts

abbrev number_of : Verdict → ℕ
number_of answers = 0
number_of (refuses n) = n

-- nor has a 9 with its byte
nine : (fault : ℕ) → not (eqb (number_in (code_at bad_field fault)) not_whole) ≡ true
nine fault = let q : (9 + 256 * fault) % 256 ≡ 9 = omega arith in rw q

never : (ts : List Test) → absent ts ≡ true → Never ts
never [] h = λ code e. answers_refuses e
never (t ∷ ts) h =
    let g = and_both (not (eqb (number_in t.number) not_whole)) (absent ts) h in
    go t.passes (eqb-false (number_in t.number) not_whole (not-true _ g.0)) (never ts g.1)
  where
    go : (b : Bool) → number_in t.number ≢ not_whole → Never ts → (code : ℕ) → cond b (verdict ts) (refuses t.number) ≡ refuses code → number_in code ≢ not_whole
    go true o rest = rest
    go false o rest = λ code e q. o (ap (λ (v : Verdict). number_in (number_of v)) e ∙ q)

-- one of two orders, and one after another
either : (c : Bool) (ts us : List Test) → absent ts ≡ true → absent us ≡ true → absent (cond c ts us) ≡ true
either true ts us h k = h
either false ts us h k = k

then : (ts us : List Test) → absent ts ≡ true → absent us ≡ true → absent (ts ++ us) ≡ true
then [] us h k = k
then (t ∷ ts) us h k =
    let g = and_both (not (eqb (number_in t.number) not_whole)) (absent ts) h in
    rw g.0 (then ts us g.1 k)

-- ---- each order
frames : (last : List Test) → absent last ≡ true → (kind identifier remote : ℕ) (s : List ℕ) → absent (frame_order last kind identifier remote s) ≡ true
frames last h kind identifier remote s = either (eqb remote 1) _ _ refl (either (eqb (byte 1 s) type_command) _ _ (rw (nine (fault (byte 2 s) (command_of s))) h) (rw (nine (fault kind (command_of s)))))

messages : (kind : ℕ) (m : Message) → absent (message_tests kind m) ≡ true
messages kind TypeRequest = refl
messages kind (Tells m) = either (eqb (byte 1 (encode m)) type_command) _ _ (rw (nine (fault (byte 2 (encode m)) m))) (rw (nine (fault kind m)))

questions : (b : List ℕ) (s kind : ℕ) (q : Question) (out : List ℕ) → absent (question_tests b s kind q out) ≡ true
questions b s kind type_of out = refl
questions b s kind build_year out = refl
questions b s kind build_week out = refl
questions b s kind (cell location) out = refl
questions b s kind (led n) out = refl
questions b s kind (blind n) out = refl
questions b s kind (name_row n) out = refl
questions b s kind (name_bytes n) out = refl
questions b s kind memory_row out = refl
questions b s kind memory_bytes out = refl

held : (kind : ℕ) (x : Held) (space : ℕ) → absent (held_tests kind x space) ≡ true
held kind (Some (a, m)) space = then (message_tests kind m) (leb frame_size space or too_short ∷ []) (messages kind m) refl
held kind None space = refl

fault-number : (n at refusal offset : ℕ) → ((refusal ≡ cut_off) × (offset ≡ n)) ⊎ ((refusal ≡ bad_number) × (at ≤ offset) × (offset < n)) → refusal ≢ not_whole
fault-number n at refusal offset (inl e) = λ q. absurd (omega (arith, e.0))
fault-number n at refusal offset (inr e) = λ q. absurd (omega (arith, e.0))

words : (v : Verdict) (value : ℕ) → ((code : ℕ) → v ≡ refuses code → number_in code ≢ not_whole) → value < values → word_of v value / values % 256 ≢ not_whole
words answers value h l e = omega arith
words (refuses code) value h l e = let q : 65536 * code / 65536 ≡ code = omega arith in h code refl (rw q at e)

pub withdrawn : Withdrawn
withdrawn =
    record {
      read = λ kind identifier remote s. never (reader_order kind identifier remote s) (frames [] refl kind identifier remote s);
      write = λ kind m. never (writer_order kind m) (messages kind m);
      sized = λ b. never (picture_test b ∷ []) refl;
      fresh_with = λ b depth. never (fresh_order b depth) refl;
      hear = λ b identifier remote s.
          never (hearing_order b identifier remote s) (frames (room_test b identifier ∷ []) refl (kind_heard b identifier) identifier remote s);
      step_back = λ b. never (back_order b) refl;
      listed = λ b out. never (listed_order b out) refl;
      each = λ b a q out. never (question_order b a q out) (questions b (slot_asked b a) (kind_in b (slot_asked b a)) q out);
      plan = λ b a n out. never (plan_order b a n out) refl;
      right_plan = λ b a. never (right_order b a) refl;
      put_record = λ b at gap identifier remote ds. never (put_order b at gap identifier remote ds) refl;
      fault = λ s at refusal offset e. fault-number (length s) at refusal offset (faults_are_placed s at refusal offset e);
      hear_all = λ b. never (replay_order b) refl;
      hear_part = λ b w left n. never (part_order b w left n) refl;
      put_listing = λ b text out. never (listing_order b text out) refl;
      read_c = λ kind identifier remote s space.
          never (read_order kind identifier remote s space)
          (then (reader_order kind identifier remote s) (leb message_size space or too_short ∷ []) (frames [] refl kind identifier remote s) refl);
      write_c = λ kind message space. never (write_order kind message space) (held kind (held_in message) space);
      word = words;
    }
