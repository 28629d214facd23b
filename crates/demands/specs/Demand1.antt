-- Demand 1: any identifier, remote flag, data, recording or question is given an answer or the one refusal number that the rules give; a refused
-- call alters nothing that was handed over. The proofs are proofs/FrameOrders.antt, PictureOrders.antt, QuestionOrders.antt, BenchOrders.antt, CallOrders.antt,
-- ReplayOrders.antt and, of the whole, Demand1.antt.
use Rattle.std.specs.Prelude.{ℕ, ◌*◌, ◌/◌, ◌%◌, ◌<◌, ◌≡◌, ◌≢◌, List, [], ◌∷◌, length, Result, Some, None, Ok, Err}
use Rattle.laws.specs.Answers as numbers
use Rattle.laws.specs.Refusals.{code_at}
use Rattle.judging.specs.Reading.{reading, reading_numbers, Reading}
use Rattle.codec.specs.Writing.{writing, writing_numbers, frame_size, Writing}
use Rattle.frame.specs.declared.identifiers.Address.{Address}
use Rattle.frame.specs.declared.messages.Message.{Message}
use Rattle.shape.specs.Answers.{outcome_numbers, answer_numbers, Outcome, Answer}
use Rattle.shape.specs.Result.{Result as CallResult}
use Rattle.picture.specs.Hearing.{hearing}
use Rattle.stores.specs.Stepping.{stepping_back}
use Rattle.steering.specs.Fresh.{freshening_with, freshening}
use Rattle.questions.specs.Question.{Question, Reply}
use Rattle.questions.specs.Replies.{slot_asked, kept_answer, listing, reply}
use Rattle.reads.specs.Plan.{least_reads}
use Rattle.plan.specs.Replies.{memory_in, plan_reply, plan_bytes_reply, right_answer, right_bytes_answer}
use Rattle.bench.specs.Making.{making}
use Rattle.taking.specs.Taking.{taken_numbers, taking, Taken}
use Rattle.recorder.specs.Write.{record_bytes, put_numbers, put_answer, put_bytes}
use Rattle.recording.specs.Statements.{RecordsAreWhole, FaultsArePlaced, FaultIsCertain, CutCanBeMended, MendableIsCut, WindowSettles, OldRecordingsRead}
use Rattle.replay.specs.Replay.{Replay, replayed_numbers, replay_answer, replay_picture}
use Rattle.replay.specs.Window.{Stream, part_numbers, part_answer, part_picture, part_window}
use Rattle.texts.specs.Listing.{listing_text, listing_answer, listing_bytes}
use Rattle.results.specs.Words.{values, refused_word, outcome_word, answer_word}
use Rattle.velbus.specs.Recordings.{put_word}
use Rattle.layouts.specs.Layout.{message_size}
use Rattle.velbus.specs.Frames.{read_word, read_into, write_word, write_into}
use Rattle.demands.specs.Order.{Test, Verdict, answers, refuses, verdict, reader_order, writer_order, picture_test, fresh_order, hearing_order, back_order, listed_order, question_order, right_order, plan_order, making_order, taking_order, put_order, replay_order, part_order, listing_order, read_order, write_order}

-- ---- what each kind of answer comes to, by its numbers
abbrev pub verdict_of : numbers.Numbers → Verdict
verdict_of (numbers.value v) = answers
verdict_of (numbers.refusal n) = refuses n

abbrev pub verdict_of_reading : Reading → Verdict
verdict_of_reading r = verdict_of (reading_numbers r)

abbrev pub verdict_of_writing : Writing → Verdict
verdict_of_writing w = verdict_of (writing_numbers w)

abbrev pub verdict_of_outcome : Outcome → Verdict
verdict_of_outcome o = verdict_of (outcome_numbers o)

abbrev pub verdict_of_answer : Answer → Verdict
verdict_of_answer a = verdict_of (answer_numbers a)

abbrev pub verdict_of_put : Result ℕ ℕ → Verdict
verdict_of_put p = verdict_of (put_numbers p)

abbrev pub verdict_of_taken : Taken → Verdict
verdict_of_taken t = verdict_of (taken_numbers t)

abbrev pub verdict_of_replayed : Result Replay ℕ → Verdict
verdict_of_replayed r = verdict_of (replayed_numbers r)

abbrev pub of_part : Result Stream ℕ → Verdict
of_part p = verdict_of (part_numbers p)

-- and as the word that C is given: a value, or the refusal
abbrev pub word_of : Verdict → ℕ → ℕ
word_of answers value = value
word_of (refuses n) value = refused_word n

-- the value of an answer that is a number
abbrev pub value_of : Answer → ℕ
value_of (Ok (Some v)) = v
value_of (Ok None) = 256
value_of (Err n) = 0

-- ---- calls that are lent a buffer
-- what is given is what the verdict of the call's tests says, and a refusal leaves the buffer as it was
pub record Decided {B : Type 0} (says : Verdict → B) (tests : List Test) (before : List ℕ) (given : B) (after : List ℕ) : Type 0 where
  pub decides : given ≡ says (verdict tests)
  pub keeps : (n : ℕ) → verdict tests ≡ refuses n → after ≡ before

-- a call that gives the verdict itself, and one that gives C its word
abbrev pub Verdicts : List Test → List ℕ → Verdict → List ℕ → Type 0
Verdicts tests before given after = Decided (λ v. v) tests before given after

abbrev pub Call : List Test → List ℕ → CallResult → Type 0
Call tests before r = Verdicts tests before (verdict_of_outcome r.outcome) r.buffer

abbrev pub Replied : List Test → List ℕ → Reply → Type 0
Replied tests before r = Verdicts tests before (verdict_of_answer r.answer) r.buffer

abbrev pub Word : ℕ → List Test → List ℕ → ℕ → List ℕ → Type 0
Word value tests before word after = Decided (λ v. word_of v value) tests before word after

-- ---- the calls
-- frames read and written
pub record Frames : Type 0 where
  pub read : (kind identifier remote : ℕ) (s : List ℕ) → verdict_of_reading (reading kind identifier remote s) ≡ verdict (reader_order kind identifier remote s)
  pub write : (kind : ℕ) (a : Address) (m : Message) → verdict_of_writing (writing kind a m) ≡ verdict (writer_order kind m)

-- the picture, of any bytes
pub record Pictures : Type 0 where
  pub fresh : (b : List ℕ) → Call (picture_test b ∷ []) b (freshening b)
  pub fresh_with : (b : List ℕ) (depth : ℕ) → Call (fresh_order b depth) b (freshening_with b depth)
  pub hear : (b : List ℕ) (identifier remote : ℕ) (s : List ℕ) → Call (hearing_order b identifier remote s) b (hearing b identifier remote s)
  pub step_back : (b : List ℕ) → Call (back_order b) b (stepping_back b)

-- questions on any bytes, of any address
pub record Questions : Type 0 where
  pub kept : (b : List ℕ) → verdict_of_answer (kept_answer b) ≡ verdict (picture_test b ∷ [])
  pub listed : (b out : List ℕ) → Replied (listed_order b out) out (listing b out)
  pub each : (b : List ℕ) (a : ℕ) (q : Question) (out : List ℕ) → Replied (question_order b a q out) out (reply b a q out)
  -- the plan of reads, which needs an entry, or two bytes, for each read; and a proposed one, which is handed over and never altered
  pub plan : (b : List ℕ) (a : ℕ) (out : List ℕ) → Replied (plan_order b a (least_reads (memory_in b (slot_asked b a))) out) out (plan_reply b a out)
  pub plan_bytes : (b : List ℕ) (a : ℕ) (out : List ℕ) → Replied (plan_order b a (2 * least_reads (memory_in b (slot_asked b a))) out) out (plan_bytes_reply b a out)
  pub right_plan : (b : List ℕ) (a : ℕ) (starts : List ℕ) → verdict_of_answer (right_answer b a starts) ≡ verdict (right_order b a)
  pub right_plan_bytes : (b : List ℕ) (a : ℕ) (bytes : List ℕ) → verdict_of_answer (right_bytes_answer b a bytes) ≡ verdict (right_order b a)

-- the bench, of any bytes; a refusal leaves both buffers as they were
pub record Benches : Type 0 where
  pub new : (b : List ℕ) (address : ℕ) (cells : List ℕ) (version year week : ℕ) → Call (making_order b address cells) b (making b address cells version year week)
  pub take : (b : List ℕ) (identifier remote : ℕ) (s out : List ℕ) → verdict_of_taken (taking b identifier remote s out).answer ≡ verdict (taking_order b identifier remote s (length out))
  pub keeps : (b : List ℕ) (identifier remote : ℕ) (s out : List ℕ) (n : ℕ) → verdict_of_taken (taking b identifier remote s out).answer ≡ refuses n
      → ((taking b identifier remote s out).bench ≡ b) × ((taking b identifier remote s out).buffer ≡ out)

-- recordings: a record put; and one read, where the first fault decides: 15 at the input's end, exactly where more bytes could mend it, or 16 at
-- the byte from which it is certain, whatever follows
pub record Recordings : Type 0 where
  pub put_record : (b : List ℕ) (at gap identifier remote : ℕ) (ds : List ℕ)
      → Verdicts (put_order b at gap identifier remote ds) b (verdict_of_put (put_answer b at gap identifier remote ds)) (put_bytes b at gap identifier remote ds)
  pub whole : RecordsAreWhole
  pub placed : FaultsArePlaced
  pub certain : FaultIsCertain
  pub mended : CutCanBeMended
  pub mendable : MendableIsCut
  pub settles : WindowSettles
  -- and an older one reads as before
  pub old : OldRecordingsRead

-- recordings heard, whole and in parts, and the listing of what was heard
pub record Replaying : Type 0 where
  pub hear_all : (b s : List ℕ) → Verdicts (replay_order b) b (verdict_of_replayed (replay_answer b s)) (replay_picture b s)
  pub hear_part : (b w : List ℕ) (st : Stream) (n : ℕ) → Verdicts (part_order b w st.left n) b (of_part (part_answer b w st n)) (part_picture b w st n)
  pub window : (b w : List ℕ) (st : Stream) (n : ℕ) → Verdicts (part_order b w st.left n) w (of_part (part_answer b w st n)) (part_window b w st n)
  pub put_listing : (b out : List ℕ) (st : Stream) → Verdicts (listing_order b (listing_text b st) out) out (verdict_of_put (listing_answer b out st)) (listing_bytes b out st)

-- the words of C, where velbus_picture_size alone has nothing to refuse: of the calls above, and of those that have definitions of their own
pub record Words : Type 0 where
  -- no value is a refusal
  pub apart : (value n : ℕ) → value < values → 0 < n → value ≢ refused_word n
  -- the number of a refusal stands in bits 16 to 23, and its byte in bits 24 to 31
  pub of_refusal : (number byte : ℕ) → number < 256 → (refused_word (code_at number byte) / 65536 % 256 ≡ number) × (refused_word (code_at number byte) / 16777216 ≡ byte)
  -- velbus_fresh, fresh_depth, hear, step_back
  pub of_outcome : (o : Outcome) → outcome_word o ≡ word_of (verdict_of_outcome o) 0
  -- velbus_kept, listed and every question on an address
  pub of_answer : (a : Answer) → answer_word a ≡ word_of (verdict_of_answer a) (value_of a % values)
  pub put_record : (b : List ℕ) (at gap identifier remote : ℕ) (ds : List ℕ)
      → Word (length (record_bytes gap identifier remote ds) % values) (put_order b at gap identifier remote ds) b
      (put_word (put_answer b at gap identifier remote ds)) (put_bytes b at gap identifier remote ds)
  pub read : (kind identifier remote : ℕ) (s out : List ℕ)
      → Word message_size (read_order kind identifier remote s (length out)) out
      (read_word (reading kind identifier remote s) (length out)) (read_into (reading kind identifier remote s) out)
  pub write : (kind : ℕ) (message out : List ℕ)
      → Word frame_size (write_order kind message (length out)) out (write_word kind message (length out)) (write_into kind message out)

pub record Demand1 : Type 0 where
  pub frames : Frames
  pub pictures : Pictures
  pub questions : Questions
  pub benches : Benches
  pub recordings : Recordings
  pub replaying : Replaying
  pub words : Words
