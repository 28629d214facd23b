-- W-209 withdraws refusal 14: no answer of any call is that number. What a call answers is the verdict of its tests, by Demand1. The proof is
-- proofs/Withdrawn.antt.
use Rattle.std.specs.Prelude.{ℕ, ◌/◌, ◌%◌, ◌<◌, ◌≡◌, ◌≢◌, List, [], ◌∷◌}
use Rattle.laws.specs.Refusals.{not_whole, number_in}
use Rattle.frame.specs.declared.messages.Message.{Message}
use Rattle.questions.specs.Question.{Question}
use Rattle.recording.specs.Record.{Broken, read_record}
use Rattle.results.specs.Words.{values}
use Rattle.demands.specs.Order.{Test, Verdict, refuses, verdict, reader_order, writer_order, picture_test, fresh_order, hearing_order, back_order, listed_order, question_order, right_order, plan_order, put_order, replay_order, part_order, listing_order, read_order, write_order}
use Rattle.demands.specs.Demand1.{word_of}

-- a call that makes these tests does not give it
abbrev pub Never : List Test → Type 0
Never tests = (code : ℕ) → verdict tests ≡ refuses code → number_in code ≢ not_whole

pub record Withdrawn : Type 0 where
  -- frames read and written
  pub read : (kind identifier remote : ℕ) (s : List ℕ) → Never (reader_order kind identifier remote s)
  pub write : (kind : ℕ) (m : Message) → Never (writer_order kind m)
  -- the picture; `fresh` and `kept` test nothing but its size
  pub sized : (b : List ℕ) → Never (picture_test b ∷ [])
  pub fresh_with : (b : List ℕ) (depth : ℕ) → Never (fresh_order b depth)
  pub hear : (b : List ℕ) (identifier remote : ℕ) (s : List ℕ) → Never (hearing_order b identifier remote s)
  pub step_back : (b : List ℕ) → Never (back_order b)
  -- questions
  pub listed : (b out : List ℕ) → Never (listed_order b out)
  pub each : (b : List ℕ) (a : ℕ) (q : Question) (out : List ℕ) → Never (question_order b a q out)
  -- the plan of reads, and a proposed one
  pub plan : (b : List ℕ) (a n : ℕ) (out : List ℕ) → Never (plan_order b a n out)
  pub right_plan : (b : List ℕ) (a : ℕ) → Never (right_order b a)
  -- recordings, their faults, and the listing
  pub put_record : (b : List ℕ) (at gap identifier remote : ℕ) (ds : List ℕ) → Never (put_order b at gap identifier remote ds)
  pub fault : (s : List ℕ) (at refusal offset : ℕ) → read_record s at ≡ Broken refusal offset → refusal ≢ not_whole
  pub hear_all : (b : List ℕ) → Never (replay_order b)
  pub hear_part : (b w : List ℕ) (left n : ℕ) → Never (part_order b w left n)
  pub put_listing : (b text out : List ℕ) → Never (listing_order b text out)
  -- from C: the calls of its own, and the word of any call, whose bits 16 to 23 are never that
  pub read_c : (kind identifier remote : ℕ) (s : List ℕ) (space : ℕ) → Never (read_order kind identifier remote s space)
  pub write_c : (kind : ℕ) (message : List ℕ) (space : ℕ) → Never (write_order kind message space)
  pub word : (v : Verdict) (value : ℕ) → ((code : ℕ) → v ≡ refuses code → number_in code ≢ not_whole) → value < values → word_of v value / values % 256 ≢ not_whole
