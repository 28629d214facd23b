-- What a call on a picture answers, in the paper's numbers. Assumes nothing.
use Rattle.std.specs.Prelude.{ℕ, Result, Ok, Err, Option, Some, None}
use Rattle.laws.specs.Answers.{Numbers, value, refusal}
use Rattle.shape.specs.Limits.{not_heard}

-- to a frame, a step back and a fresh picture: done, or the number of a refusal
abbrev pub Outcome : Type 0
Outcome = Result (Unit {0}) ℕ

abbrev pub outcome_numbers : Outcome → Numbers
outcome_numbers (Ok tt) = value 0
outcome_numbers (Err n) = refusal n

-- to a question: a number, or that the place is not heard; or the refusal's number
abbrev pub Answer : Type 0
Answer = Result (Option ℕ) ℕ

abbrev pub answer_numbers : Answer → Numbers
answer_numbers (Ok (Some v)) = value v
answer_numbers (Ok None) = value not_heard
answer_numbers (Err n) = refusal n

-- the answer to a question that is always a number, and to one that fills a buffer, whose number is 0
abbrev pub valued : Result ℕ ℕ → Answer
valued (Ok v) = Ok (Some v)
valued (Err n) = Err n

abbrev pub filled : Result (Unit {0}) ℕ → Answer
filled (Ok done) = Ok (Some 0)
filled (Err n) = Err n
