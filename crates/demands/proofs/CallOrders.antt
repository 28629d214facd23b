-- The orders of a record put into a buffer, and of the calls from C. Assumes nothing.
use Rattle.shape.specs.Answers.{Outcome, Answer}
use Rattle.std.specs.Prelude.{Ok, Err, Some, None, Result}
use Prim.Native.Nat.{ℕ, ◌+◌, ◌/◌, ◌%◌, ◌<◌}
use native.Mathlib.Omega.{arith}
use mathlib.Core.Path.{◌≡◌, refl, ap}
use mathlib.Core.Logic.{◌≢◌}
use mathlib.Core.List.{List, [], ◌∷◌, ◌++◌}
use mathlib.Core.Bool.{Bool, true, false, cond}
use lib.Dec.{ltb, leb}
use lib.ListN.{length}
use lib.Seq.{sets}
use Rattle.laws.specs.Refusals.{bad_type, not_listed, too_short, bad_number, code_at}
use Rattle.laws.specs.Tests.{among, unless}
use Rattle.laws.specs.Answers as numbers
use Rattle.laws.specs.Copies.{copied_in}
use Rattle.kinds.specs.Types.{handed_types}
use Rattle.judging.specs.Reading.{reading, Reading}
use Rattle.codec.specs.Writing.{writing, frame_size, frame_bytes, Writing}
use Rattle.recording.specs.Limits.{in_range}
use Rattle.recorder.specs.Write.{record_bytes, put_case, placed, put_answer, put_bytes}
use Rattle.recording.proofs.Entries.{records_are_whole, faults_are_placed, old_recordings_read}
use Rattle.recording.proofs.Faults.{fault_is_certain, mendable_is_cut}
use Rattle.recording.proofs.Mending.{cut_can_be_mended}
use Rattle.recording.proofs.Windows.{window_settles}
use Rattle.results.specs.Words.{values, refused_word, word, room_word, outcome_word, answer_word}
use Rattle.velbus.specs.Recordings.{put_word}
use Rattle.layouts.specs.Parts.{parts_of, Held}
use Rattle.layouts.specs.Layout.{message_size, laid_bytes, held_in}
use Rattle.velbus.specs.Frames.{read_word, read_into, written_word, written_into, held_word, held_into, write_word, write_into}
use Rattle.demands.specs.Order.{Test, ◌or◌, Verdict, answers, refuses, verdict, reader_order, writer_order, put_order, held_tests, write_order}
use Rattle.demands.specs.Demand1.{verdict_of_reading, verdict_of_writing, verdict_of_outcome, verdict_of_answer, value_of, verdict_of_put, word_of, Decided, Word, Recordings, Words}
use Rattle.demands.proofs.Orders.{answers_refuses, by_test, by-fault, answered-then, refused-then}
use Rattle.demands.proofs.FrameOrders.{reads, writes}

-- ---- records
module _ (b : List ℕ) (at gap identifier remote : ℕ) (ds : List ℕ) where
  abbrev bytes : List ℕ
  bytes = record_bytes gap identifier remote ds

  -- of whatever is given for the answer
  puts : {B : Type 0} (says : Verdict → B) (of : Result ℕ ℕ → B) → ((n : ℕ) → of (Err n) ≡ says (refuses n)) → of (Ok (length bytes)) ≡ says answers
      → Decided says (put_order b at gap identifier remote ds) b (of (put_answer b at gap identifier remote ds)) (put_bytes b at gap identifier remote ds)
  unfolding put_answer put_bytes
  puts says of same wrote =
      by_test says b bad_number _
      (λ c. of (put_case c (length b) at bytes (Err bad_number) (Err too_short) (Ok (length bytes))))
      (λ c. put_case c (length b) at bytes b b (placed b at bytes)) (in_range gap identifier remote (length ds))
      (by_test says b too_short []
      (λ c. of (cond c (Ok (length bytes)) (Err too_short))) (λ c. cond c (placed b at bytes) b) (leb (at + length bytes) (length b))
      (record { decides = wrote; keeps = λ n e. answers_refuses e }) (same too_short) refl)
      (same bad_number) refl

pub recordings : Recordings
recordings =
    record {
      put_record = λ b at gap identifier remote ds. puts b at gap identifier remote ds (λ v. v) verdict_of_put (λ n. refl) refl;
      whole = records_are_whole;
      placed = faults_are_placed;
      certain = fault_is_certain;
      mended = cut_can_be_mended;
      mendable = mendable_is_cut;
      settles = window_settles;
      old = old_recordings_read;
    }

-- ---- words
module _ (out laid : List ℕ) where
  laid_is : copied_in out 0 laid ≡ cond (leb (length laid) (length out)) (sets out 0 laid) out
  unfolding copied_in
  laid_is = ap (λ (n : ℕ). cond (leb n (length out)) (sets out 0 laid) out) (omega arith)

  -- bytes laid into a buffer: 13 where they have no room
  lays : Word (length laid % values) (leb (length laid) (length out) or too_short ∷ []) out (room_word (length out) (length laid)) (copied_in out 0 laid)
  lays =
      rw laid_is
      (by_test (λ v. word_of v (length laid % values)) out too_short [] (λ c. word (cond c (numbers.value (length laid)) (numbers.refusal too_short))) (λ c. cond c (sets out 0 laid) out)
      (leb (length laid) (length out)) (record { decides = refl; keeps = λ n e. answers_refuses e }) refl refl)

module _ (ts : List Test) (out : List ℕ) where
  abbrev space : ℕ → List Test
  space size = leb size (length out) or too_short ∷ []

  read-then : (r : Reading) → verdict_of_reading r ≡ verdict ts → Word message_size (ts ++ space message_size) out (read_word r (length out)) (read_into r out)
  unfolding laid_bytes
  read-then (Ok (a, m)) e = answered-then (λ v. word_of v message_size) out ts (space message_size) _ _ e (lays out (laid_bytes (parts_of a m)))
  read-then (Err n) e = refused-then (λ v. word_of v message_size) out ts (space message_size) _ _ n e refl refl

  written_then : (w : Writing) → verdict_of_writing w ≡ verdict ts → Word frame_size (ts ++ space frame_size) out (written_word w (length out)) (written_into w out)
  written_then (Ok f) e = answered-then (λ v. word_of v frame_size) out ts (space frame_size) _ _ e (lays out (frame_bytes f))
  written_then (Err n) e = refused-then (λ v. word_of v frame_size) out ts (space frame_size) _ _ n e refl refl

module _ (kind : ℕ) (out : List ℕ) where
  nothing_order : (b : Bool) → Word frame_size (b or bad_type ∷ false or not_listed ∷ []) out (refused_word (unless b bad_type not_listed)) out
  nothing_order true = record { decides = refl; keeps = λ _ _. refl }
  nothing_order false = record { decides = refl; keeps = λ _ _. refl }

  held_order :
      (x : Held) → Word frame_size (among kind handed_types or bad_type ∷ held_tests kind x (length out)) out (held_word kind x (length out)) (held_into kind x out)
  held_order (Some (a, m)) = written_then (writer_order kind m) out (writing kind a m) (writes kind a m)
  held_order None = nothing_order (among kind handed_types)

  write_order_lem : (message : List ℕ) → Word frame_size (write_order kind message (length out)) out (write_word kind message (length out)) (write_into kind message out)
  unfolding write_word write_into
  write_order_lem message =
      by-fault (λ v. word_of v frame_size) out too_short (among kind handed_types or bad_type ∷ held_tests kind (held_in message) (length out))
      (λ c. cond c (refused_word too_short) (held_word kind (held_in message) (length out))) (λ c. cond c out (held_into kind (held_in message) out))
      (ltb (length message) message_size) (held_order (held_in message)) refl refl

apart : (value n : ℕ) → value < values → 0 < n → value ≢ refused_word n
apart value n h k e = omega arith

of_refusal : (number byte : ℕ) → number < 256 → (refused_word (code_at number byte) / 65536 % 256 ≡ number) × (refused_word (code_at number byte) / 16777216 ≡ byte)
of_refusal number byte h = (omega arith, omega arith)

outcome-word : (o : Outcome) → outcome_word o ≡ word_of (verdict_of_outcome o) 0
outcome-word (Ok tt) = refl
outcome-word (Err n) = refl

answer_word_lem : (x : Answer) → answer_word x ≡ word_of (verdict_of_answer x) (value_of x % values)
answer_word_lem (Ok (Some v)) = refl
answer_word_lem (Ok None) = refl
answer_word_lem (Err n) = refl

pub words : Words
words =
    record {
      apart = apart;
      of_refusal = of_refusal;
      of_outcome = outcome-word;
      of_answer = answer_word_lem;
      put_record = λ b at gap identifier remote ds.
          puts b at gap identifier remote ds (λ v. word_of v (length (record_bytes gap identifier remote ds) % values)) put_word (λ n. refl) refl;
      read = λ kind identifier remote s out.
          read-then (reader_order kind identifier remote s) out (reading kind identifier remote s) (reads kind identifier remote s);
      write = λ kind message out. write_order_lem kind out message;
    }
