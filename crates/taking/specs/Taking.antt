-- What a frame for a bench gives: the refusals in their order, the answer, the bench's bytes and the reply buffer. Assumes nothing.
use Rattle.std.specs.Prelude.{ℕ, ◌*◌, cond, List, leb, ltb, length, Result, Ok, Err, Some, None}
use Rattle.std.proofs.lemmas.List.Edits.{sets}
use Rattle.laws.specs.Refusals.{too_short}
use Rattle.laws.specs.Answers.{Numbers, value, refusal}
use Rattle.codec.specs.Writing.{frame_size}
use Rattle.frame.specs.declared.messages.Command.{Command}
use Rattle.frame.specs.declared.messages.Message.{Message}
use Rattle.replies.specs.Bench.{bench_size, own_address}
use Rattle.replies.specs.Replies.{replies}
use Rattle.bench.specs.Deeds.{done}
use Rattle.bench.specs.Sending.{all_bytes}
use Rattle.verdicts.specs.Verdicts.{judged, Verdict}

-- the number of replies written, or the number of a refusal
abbrev pub Taken : Type 0
Taken = Result ℕ ℕ

pub record Outcome : Type 0 where
  pub answer : Taken
  pub bench : List ℕ
  pub buffer : List ℕ

-- nothing is stored and nothing is written
abbrev pub kept : Taken → List ℕ → List ℕ → Outcome
kept t b buffer = record { answer = t; bench = b; buffer = buffer }

-- the deed is done and the replies are written, from the start of the buffer
abbrev pub taken_with : List ℕ → List Command → List ℕ → Outcome
taken_with b ms buffer = record { answer = Ok (length ms); bench = b; buffer = sets buffer 0 (all_bytes (own_address b) ms) }

-- a message that is taken: 13 where the buffer has no room for its replies
unfoldable pub given : List ℕ → Message → List ℕ → Outcome
given b m buffer =
    cond (leb (frame_size * length (replies (done m b) m)) (length buffer))
    (taken_with (done m b) (replies (done m b) m) buffer)
    (kept (Err too_short) b buffer)

abbrev pub outcome_of : Verdict → List ℕ → List ℕ → Outcome
outcome_of (Ok (Some m)) b buffer = given b m buffer
outcome_of (Ok None) b buffer = kept (Ok 0) b buffer
outcome_of (Err n) b buffer = kept (Err n) b buffer

-- a frame for the bench in b: 13 where b is too short to be a bench, before anything else
unfoldable pub taking : List ℕ → ℕ → ℕ → List ℕ → List ℕ → Outcome
taking b identifier remote s buffer =
    cond (ltb (length b) bench_size) (kept (Err too_short) b buffer) (outcome_of (judged (own_address b) identifier remote s) b buffer)

-- in the paper's numbers, a 9 with its byte
abbrev pub taken_numbers : Taken → Numbers
taken_numbers (Ok n) = value n
taken_numbers (Err n) = refusal n
