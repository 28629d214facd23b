-- The result word: bits 0 to 15 the value; bits 16 to 23 the refusal number; bits 24 to 31 the number of the data byte that a 9 comes with, 0 for
-- every other. A refused word has value 0.
use Rattle.std.specs.Prelude.{ℕ, ◌*◌, ◌%◌, cond, leb}
use Rattle.laws.specs.Refusals.{too_short}
use Rattle.laws.specs.Answers.{Numbers, value, refusal}
use Rattle.shape.specs.Answers.{outcome_numbers, answer_numbers, Outcome, Answer}

-- how many values there are
abbrev pub values : ℕ
values = 65536

abbrev pub refused_word : ℕ → ℕ
refused_word code = values * code

-- of an answer in the paper's numbers
abbrev pub word : Numbers → ℕ
word (value v) = v % values
word (refusal code) = refused_word code

abbrev pub outcome_word : Outcome → ℕ
outcome_word o = word (outcome_numbers o)

abbrev pub answer_word : Answer → ℕ
answer_word a = word (answer_numbers a)

-- a call that fills `need` bytes of a buffer of `room` answers their number, or 13
abbrev pub room_numbers : ℕ → ℕ → Numbers
room_numbers room need = cond (leb need room) (value need) (refusal too_short)

abbrev pub room_word : ℕ → ℕ → ℕ
room_word room need = word (room_numbers room need)
