-- The orders of the bench's calls. Assumes nothing.
use Rattle.std.specs.Prelude.{Ok, Err, Some, None}
use Prim.Native.Nat.{ℕ, ◌+◌}
use native.Mathlib.Omega.{arith}
use mathlib.Core.Path.{◌≡◌, refl, sym, ap, ◌∙◌}
use mathlib.Core.Bool.{Bool, true, false, not, ◌&&◌, cond}
use mathlib.Core.List.{List, [], ◌∷◌, ◌++◌}
use lib.Dec.{eqb, leb, ltb}
use lib.ListN.{length}
use borrow.Author.Tests.{eqb-true, eq-eqb, ne_eqb, le-leb}
use Rattle.laws.specs.Refusals.{bad_identifier, sid0_set, bad_form, bad_priority, bad_type, type_not_known, not_listed, wrong_length, wrong_priority, bad_field, code_at, too_short}
use Rattle.laws.specs.Tests.{among, unless, unless_refused}
use Rattle.laws.proofs.Testing.{not_both}
use Rattle.kinds.specs.Types.{low, priorities, vmb8ir, no_type, module_types, is_listed, row_for}
use Rattle.frame.specs.Identifiers.{priority_of, address_of, eleven_bits, sid0_clear, well_formed}
use Rattle.frame.specs.Bytes.{byte, data_of}
use Rattle.frame.specs.Messages.{type_command}
use Rattle.fields.specs.Fields.{fault}
use Rattle.frame.specs.declared.messages.Message.{Message}
use Rattle.frame.specs.declared.messages.Message.TheVariants.{TypeRequest, Tells}
use Rattle.judging.specs.Reading.{row_refusal, command_refusal, request_refusal, command_read, request_read, reading, Reading}
use Rattle.shape.specs.Limits.{addresses, bus_address}
use Rattle.places.specs.Runs.{command_of}
use Rattle.replies.specs.Bench.{bench_size, own_address}
use Rattle.bench.specs.Making.{named_cells, making}
use Rattle.bench.specs.Deeds.{done}
use Rattle.replies.specs.Replies.{replies}
use Rattle.verdicts.specs.Verdicts.{first_refusals, sent_only, judged_if, judged, Verdict as BenchVerdict}
use Rattle.taking.specs.Taking.{Outcome, kept, taken_with, given, outcome_of, taking, Taken}
use Rattle.demands.specs.Order.{Test, ◌or◌, Verdict, answers, refuses, verdict, form_tests, request_tests, other_tests, making_order, message_in, reply_room, own_tests, taking_order}
use Rattle.demands.specs.Demand1.{verdict_of_taken, Call, Benches}
use Rattle.demands.proofs.Orders.{answers_refuses, unlesses, refused_or, call_fault, call_done, answer-fault}

news : (b : List ℕ) (address : ℕ) (cells : List ℕ) (version year week : ℕ) → Call (making_order b address cells) b (making b address cells version year week)
unfolding making
news b address cells version year week =
    call_fault b too_short _ _ (ltb (length b) bench_size)
    (call_fault b too_short _ _ (ltb (length cells) named_cells)
    (call_fault b type_not_known _ _ (leb addresses address)
    (call_fault b (code_at bad_field 1) [] _ (eqb address 0) (call_done b _))))

-- ---- the reader's later refusals are none of the first
abbrev Late : ℕ → Type 0
Late n = among n first_refusals ≡ false

late_unless : (t : Bool) (n later : ℕ) → Late n → Late later → Late (unless t n later)
late_unless true n later h l = l
late_unless false n later h l = h

late_nine : (f : ℕ) → Late (code_at bad_field f)
late_nine f = rw (ne_eqb (code_at bad_field f) 1 (λ e. omega arith), ne_eqb (code_at bad_field f) 17 (λ e. omega arith), ne_eqb (code_at bad_field f) 2 (λ e. omega arith), ne_eqb (code_at bad_field f) 3 (λ e. omega arith))

module _ (b : List ℕ) (identifier remote : ℕ) (s out : List ℕ) where
  row_late : (k : ℕ) → Late (row_refusal k (priority_of identifier) (data_of s) (command_of s))
  row_late k =
      late_unless (is_listed k (byte 1 s)) not_listed _ refl
      (late_unless (eqb (length s) (row_for k (byte 1 s)).0) wrong_length _ refl
      (late_unless (eqb (priority_of identifier) (row_for k (byte 1 s)).1) wrong_priority _ refl
      (late_unless (eqb (fault k (command_of s)) 0) (code_at bad_field (fault k (command_of s))) 0 (late_nine (fault k (command_of s))) refl)))

  command_late : Late (command_refusal vmb8ir (priority_of identifier) (data_of s) (command_of s))
  command_late = go (eqb (byte 1 s) type_command)
    where
      go : (c : Bool) → Late (cond c (unless (leb 2 (length s)) wrong_length (unless (among (cond c (byte 2 s) vmb8ir) module_types) bad_type (row_refusal (cond c (byte 2 s) vmb8ir) (priority_of identifier) (data_of s) (command_of s))))
          (unless (not (eqb vmb8ir no_type)) type_not_known (row_refusal (cond c (byte 2 s) vmb8ir) (priority_of identifier) (data_of s) (command_of s))))
      go true = late_unless (leb 2 (length s)) wrong_length _ refl (late_unless (among (byte 2 s) module_types) bad_type _ refl (row_late (byte 2 s)))
      go false = row_late vmb8ir

  -- what is read after the form was good
  after_form : Reading
  after_form = cond (eqb remote 1) (request_read (priority_of identifier) (address_of identifier)) (command_read vmb8ir (priority_of identifier) (address_of identifier) (data_of s))

  abbrev LateReading : Reading → Type 0
  LateReading (Ok (a, m)) = Unit {0}
  LateReading (Err n) = Late n

  late_refused : (n : ℕ) (r : Reading) → Late n → LateReading r → LateReading (unless_refused Err n r)
  late_refused n r h l = go (eqb n 0)
    where
      go : (c : Bool) → LateReading (cond c r (Err n))
      go true = l
      go false = h

  after_late : LateReading after_form
  unfolding after_form request_read command_read
  after_late = go (eqb remote 1)
    where
      go : (c : Bool) → LateReading (cond c (request_read (priority_of identifier) (address_of identifier)) (command_read vmb8ir (priority_of identifier) (address_of identifier) (data_of s)))
      go true = late_refused (request_refusal (priority_of identifier)) (Ok (address_of identifier, TypeRequest)) (late_unless (eqb (priority_of identifier) low) wrong_priority 0 refl refl) tt
      go false = late_refused (command_refusal vmb8ir (priority_of identifier) (data_of s) (command_of s)) (Ok (address_of identifier, Tells (command_of s))) command_late tt

  -- what the bench gives, by what is read, whether the frame is its own, and whether only a module sends the command
  abbrev of : Bool → Bool → Reading → Verdict
  of here sent r = verdict_of_taken (outcome_of (judged_if r here sent) b out).answer

  silent : (sent : Bool) (r : Reading) → LateReading r → of false sent r ≡ answers
  unfolding judged_if
  silent sent (Ok (a, m)) l = refl
  silent sent (Err n) l = rw l

  six : (r : Reading) → LateReading r → of true true r ≡ refuses not_listed
  unfolding judged_if
  six (Ok (a, m)) l = refl
  six (Err n) l = rw l

  own_same : (n : ℕ) → of true false (Err n) ≡ refuses n
  unfolding judged_if
  own_same n = go (among n first_refusals)
    where
      go : (c : Bool) → verdict_of_taken (outcome_of (cond c (Err n) (Err n)) b out).answer ≡ refuses n
      go true = refl
      go false = refl

  space_test : (m : Message) → verdict_of_taken (given b m out).answer ≡ verdict (leb (reply_room b m) (length out) or too_short ∷ [])
  unfolding given
  space_test m = go (leb (reply_room b m) (length out))
    where
      go : (c : Bool) → verdict_of_taken (cond c (taken_with (done m b) (replies (done m b) m) out) (kept (Err too_short) b out)).answer ≡ verdict (c or too_short ∷ [])
      go true = refl
      go false = refl

  nine_numbered : (f : ℕ) → leb 1 (code_at bad_field f) ≡ true
  nine_numbered f = le-leb 1 (code_at bad_field f) (omega arith)

  -- a frame of good form at the bench's own address, of a command that a module receives
  space : Test
  space = leb (reply_room b (message_in remote s)) (length out) or too_short

  not_type : among (byte 1 s) sent_only ≡ false → eqb (byte 1 s) type_command ≡ false
  not_type h = go (eqb (byte 1 s) type_command) refl
    where
      go : (c : Bool) → eqb (byte 1 s) type_command ≡ c → c ≡ false
      go false q = refl
      go true q = not_both (sym (rw (eqb-true (byte 1 s) type_command q) at h))

  others : eqb (byte 1 s) type_command ≡ false → command_refusal vmb8ir (priority_of identifier) (data_of s) (command_of s) ≡ unlesses (other_tests vmb8ir identifier s)
  others q = rw q

  own_late : (c : Bool) → eqb remote 1 ≡ c → (c ≡ false → among (byte 1 s) sent_only ≡ false)
      → of true false (cond c (request_read (priority_of identifier) (address_of identifier)) (command_read vmb8ir (priority_of identifier) (address_of identifier) (data_of s)))
      ≡ verdict (cond c (request_tests identifier) (other_tests vmb8ir identifier s) ++ (leb (reply_room b (cond c TypeRequest (Tells (command_of s)))) (length out) or too_short ∷ []))
  unfolding request_read command_read judged_if
  own_late true q h = refused_or (of true false) Err own_same (request_tests identifier) (leb (reply_room b TypeRequest) (length out) or too_short ∷ []) refl (Ok (address_of identifier, TypeRequest)) (space_test TypeRequest)
  own_late false q h =
      let z = others (not_type (h refl)) in
      ap (λ (n : ℕ). of true false (unless_refused Err n (Ok (address_of identifier, Tells (command_of s))))) z
      ∙ refused_or (of true false) Err own_same (other_tests vmb8ir identifier s) (leb (reply_room b (Tells (command_of s))) (length out) or too_short ∷ []) (rw (nine_numbered (fault vmb8ir (command_of s)))) (Ok (address_of identifier, Tells (command_of s))) (space_test (Tells (command_of s)))

  formed : well_formed remote (length s) ≡ true → eqb remote 1 ≡ false → remote ≡ 0
  formed w q = go (eqb remote 0) refl (rw q at w)
    where
      go : (c : Bool) → eqb remote 0 ≡ c → c && (leb 1 (length s) && leb (length s) 8) ≡ true → remote ≡ 0
      go true e w = eqb-true remote 0 e
      go false e w = not_both w

  sent_none : (sent : Bool) → eqb remote 0 && among (byte 1 s) sent_only ≡ sent → sent ≡ false → well_formed remote (length s) ≡ true → eqb remote 1 ≡ false → among (byte 1 s) sent_only ≡ false
  sent_none sent e f w q = rw (eq-eqb remote 0 (formed w q)) at (e ∙ f)

  -- every frame of good form
  late_order : (here sent : Bool) → eqb remote 0 && among (byte 1 s) sent_only ≡ sent → well_formed remote (length s) ≡ true
      → of here sent after_form
      ≡ verdict (cond here (not sent or not_listed ∷ (cond (eqb remote 1) (request_tests identifier) (other_tests vmb8ir identifier s) ++ (space ∷ []))) [])
  unfolding after_form space
  late_order false sent e w = silent sent after_form after_late
  late_order true true e w = six after_form after_late
  late_order true false e w = own_late (eqb remote 1) refl (sent_none false e refl w)

  -- 1, 17, 2 and 3 come first
  form_order : (here sent : Bool) (x y z v : Bool) (us : List Test) → (z ≡ true → of here sent after_form ≡ verdict us)
      → of here sent (unless_refused Err (unless x bad_identifier (unless y sid0_set (unless z bad_form (unless v bad_priority 0)))) after_form)
      ≡ verdict ((x or bad_identifier ∷ y or sid0_set ∷ z or bad_form ∷ v or bad_priority ∷ []) ++ us)
  unfolding judged_if
  form_order here sent false y z v us h = refl
  form_order here sent true false z v us h = refl
  form_order here sent true true false v us h = refl
  form_order here sent true true true false us h = refl
  form_order here sent true true true true us h = h refl

  read_order_lem : verdict_of_taken (outcome_of (judged (own_address b) identifier remote s) b out).answer
      ≡ verdict (form_tests vmb8ir identifier remote s ++ cond (eqb (bus_address identifier) (own_address b)) (own_tests b identifier remote s (length out)) [])
  unfolding judged reading after_form space
  read_order_lem =
      form_order (eqb (bus_address identifier) (own_address b)) (eqb remote 0 && among (byte 1 s) sent_only) (eleven_bits identifier) (sid0_clear identifier) (well_formed remote (length s)) (among (priority_of identifier) priorities)
      (cond (eqb (bus_address identifier) (own_address b)) (own_tests b identifier remote s (length out)) [])
      (λ w. late_order (eqb (bus_address identifier) (own_address b)) (eqb remote 0 && among (byte 1 s) sent_only) refl w)

  takes : verdict_of_taken (taking b identifier remote s out).answer ≡ verdict (taking_order b identifier remote s (length out))
  unfolding taking
  takes =
      answer-fault (λ (o : Outcome). verdict_of_taken o.answer) too_short (form_tests vmb8ir identifier remote s ++ cond (eqb (bus_address identifier) (own_address b)) (own_tests b identifier remote s (length out)) []) (outcome_of (judged (own_address b) identifier remote s) b out) (kept (Err too_short) b out) read_order_lem refl (ltb (length b) bench_size)

  -- a refusal leaves both buffers as they were
  abbrev Keeps : Outcome → Type 0
  Keeps o = (n : ℕ) → verdict_of_taken o.answer ≡ refuses n → (o.bench ≡ b) × (o.buffer ≡ out)

  kept_keeps : (t : Taken) → Keeps (kept t b out)
  kept_keeps t n e = (refl, refl)

  given_keeps : (m : Message) → Keeps (given b m out)
  unfolding given
  given_keeps m = go (leb (reply_room b m) (length out))
    where
      go : (c : Bool) → Keeps (cond c (taken_with (done m b) (replies (done m b) m) out) (kept (Err too_short) b out))
      go true n e = answers_refuses e
      go false n e = (refl, refl)

  judged_keeps : (v : BenchVerdict) → Keeps (outcome_of v b out)
  judged_keeps (Ok (Some m)) = given_keeps m
  judged_keeps (Ok None) = kept_keeps (Ok 0)
  judged_keeps (Err n) = kept_keeps (Err n)

  keeps : Keeps (taking b identifier remote s out)
  unfolding taking
  keeps = go (ltb (length b) bench_size)
    where
      go : (c : Bool) → Keeps (cond c (kept (Err too_short) b out) (outcome_of (judged (own_address b) identifier remote s) b out))
      go true = kept_keeps (Err too_short)
      go false = judged_keeps (judged (own_address b) identifier remote s)

pub benches : Benches
benches = record { new = news; take = takes; keeps = keeps }
