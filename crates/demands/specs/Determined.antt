-- A promise leaves a function no choice: two results that satisfy it are equal. Once for each public function that is lent a buffer (but for
-- `inputs`, which reads what no definition knows): its contract is that the answer, in the papers' numbers, and the buffer's final contents are these
-- definitions'. The proof is proofs/Determined.antt.
use Rattle.std.specs.Prelude.{ℕ, ◌≡◌, ◌<◌, ◌≤◌, Bool, List, length, set, Option, IfSome, unwrap_or, Result as Answered}
use Rattle.laws.specs.Codes.{code_of, coded, code_in}
use Rattle.laws.specs.Copies.{copied_in}
use Rattle.laws.specs.declared.refusals.Refusal.{Refusal}
use Rattle.laws.specs.Promises.{OneAnswer, OneResult, OneOutcome, NoChoice}
use Rattle.judging.specs.Reading.{reading}
use Rattle.places.specs.Places.{places, nowhere}
use Rattle.shape.specs.Limits.{room}
use Rattle.shape.specs.Head.{no_slot}
use Rattle.shape.specs.Answers.{valued, filled}
use Rattle.shape.specs.Result.{Result}
use Rattle.picture.specs.Hearing.{hearing}
use Rattle.stores.specs.Stepping.{stepping_back}
use Rattle.steering.specs.Fresh.{freshening_with, freshening}
use Rattle.questions.specs.Question.{Question, Reply}
use Rattle.questions.specs.Replies.{listing, reply}
use Rattle.plan.specs.Replies.{judged, plan_reply, plan_bytes_reply}
use Rattle.groups.specs.Write.{put_groups, put_into}
use Rattle.recorder.specs.Write.{put_answer, put_bytes}
use Rattle.recording.specs.Record.{told}
use Rattle.recording.specs.declared.records.Fault.{Fault}
use Rattle.replay.specs.declared.records.Replay as code
use Rattle.replay.specs.declared.window.Stream as part
use Rattle.replay.specs.Replay.{told_replayed, replay_answer, replay_picture}
use Rattle.replay.specs.Window.{Stream, told_part, part_answer, part_picture, part_window}
use Rattle.texts.specs.Listing.{listing_answer, listing_bytes}
use Rattle.bench.specs.Making.{making}
use Rattle.taking.specs.Taking.{Outcome, taking}
use Rattle.sight.specs.Words.{taken_word}
use Rattle.results.specs.Words.{outcome_word, answer_word}
use Rattle.velbus.specs.Recordings.{put_word}
use Rattle.velbus.specs.Frames.{read_word, read_into, write_word, write_into}

-- a call on a picture, and a question that fills; and the same from C, with a word for the answer
abbrev pub OneCall : Result → Type 0
OneCall r = OneResult r.outcome r.buffer × OneResult (outcome_word r.outcome) r.buffer

abbrev pub OneReply : Reply → Type 0
OneReply r = OneResult r.answer r.buffer × OneResult (answer_word r.answer) r.buffer

abbrev pub OneTaking : Outcome → Type 0
OneTaking o = OneOutcome o.answer o.bench o.buffer × OneOutcome (taken_word o.answer) o.bench o.buffer

-- what may be none, or a number below a bound, and is told as a number for none
abbrev pub Below : ℕ → Option ℕ → Type 0
Below bound x = IfSome x (λ n. n < bound)

abbrev pub OneBelow : ℕ → ℕ → Type 0
OneBelow bound none = (x y : Option ℕ) → Below bound x → Below bound y → unwrap_or x none ≡ unwrap_or y none → x ≡ y

pub record Determined : Type 1 where
  -- whatever the definitions are
  pub no_choice : NoChoice
  -- and no two answers of the code's own come to one in the paper's numbers
  pub one_code : (x y : Refusal) → code_of x ≡ code_of y → x ≡ y
  pub one_result : {A : Type 0} (x y : Answered A Refusal) → coded x ≡ coded y → x ≡ y
  pub one_test : (x y : Answered (Unit {0}) Refusal) → code_in x ≡ code_in y → x ≡ y
  pub one_value : (x y : Answered ℕ Refusal) → valued (coded x) ≡ valued (coded y) → x ≡ y
  pub one_filling : (x y : Answered (Unit {0}) Refusal) → filled (coded x) ≡ filled (coded y) → x ≡ y
  pub one_judgement : (x y : Answered Bool Refusal) → judged (coded x) ≡ judged (coded y) → x ≡ y
  -- a place of a record, none as `nowhere`; and a slot, none as `no_slot`
  pub one_place : OneBelow places nowhere
  pub one_slot : OneBelow room no_slot
  pub one_record : {A : Type 0} (x y : Answered A Fault) → told x ≡ told y → x ≡ y
  pub one_replay : (x y : Answered code.Replay Refusal) → told_replayed x ≡ told_replayed y → x ≡ y
  pub one_part : (x y : Answered part.Stream Refusal) → told_part x ≡ told_part y → x ≡ y
  -- laws: copy_in; places: put_at; numbers: put_number
  pub copy_in : (out : List ℕ) (at : ℕ) (bytes : List ℕ) → OneAnswer (copied_in out at bytes)
  pub put_at : (s : List ℕ) (i v : ℕ) → OneAnswer (set s i v)
  pub put_number : (out : List ℕ) (at v : ℕ) → OneResult (put_groups out at v) (put_into out at v)
  -- fresh, fresh_with, hear, step_back
  pub fresh : (b : List ℕ) → OneCall (freshening b)
  pub fresh_with : (b : List ℕ) (depth : ℕ) → OneCall (freshening_with b depth)
  pub hear : (b : List ℕ) (identifier remote : ℕ) (s : List ℕ) → OneCall (hearing b identifier remote s)
  pub step_back : (b : List ℕ) → OneCall (stepping_back b)
  -- listed, and every question on an address: name, name_bytes, memory_row, memory_bytes
  pub listed : (b out : List ℕ) → OneReply (listing b out)
  pub each : (b : List ℕ) (a : ℕ) (q : Question) (out : List ℕ) → OneReply (reply b a q out)
  -- plan, plan_bytes
  pub plan : (b : List ℕ) (a : ℕ) (out : List ℕ) → OneReply (plan_reply b a out)
  pub plan_bytes : (b : List ℕ) (a : ℕ) (out : List ℕ) → OneReply (plan_bytes_reply b a out)
  -- put_record, hear_all, hear_part, put_listing
  pub put_record : (b : List ℕ) (at gap identifier remote : ℕ) (ds : List ℕ)
      → OneResult (put_answer b at gap identifier remote ds) (put_bytes b at gap identifier remote ds)
      × OneResult (put_word (put_answer b at gap identifier remote ds)) (put_bytes b at gap identifier remote ds)
  pub hear_all : (b s : List ℕ) → OneResult (replay_answer b s) (replay_picture b s)
  pub hear_part : (b w : List ℕ) (st : Stream) (n : ℕ) → OneOutcome (part_answer b w st n) (part_picture b w st n) (part_window b w st n)
  pub put_listing : (b out : List ℕ) (st : Stream) → OneResult (listing_answer b out st) (listing_bytes b out st)
  -- bench_new, bench_take
  pub bench_new : (b : List ℕ) (address : ℕ) (cells : List ℕ) (version year week : ℕ) → OneCall (making b address cells version year week)
  pub bench_take : (b : List ℕ) (identifier remote : ℕ) (s out : List ℕ) → OneTaking (taking b identifier remote s out)
  -- velbus_read, velbus_write
  pub read : (kind identifier remote : ℕ) (s out : List ℕ)
      → OneResult (read_word (reading kind identifier remote s) (length out)) (read_into (reading kind identifier remote s) out)
  pub write : (kind : ℕ) (message out : List ℕ) → OneResult (write_word kind message (length out)) (write_into kind message out)
