-- Every question on an address, and what is given back. Assumes nothing.
use Rattle.std.specs.Prelude.{ℕ, List, Some, Ok, Err}
use Rattle.shape.specs.Answers.{Answer}

-- LEDs, blinds and names are counted from 1, cells by their location
pub data Question : Type 0 where
  type_of : Question
  build_year : Question
  build_week : Question
  cell : ℕ → Question
  led : ℕ → Question
  blind : ℕ → Question
  -- the characters of a name as a row of numbers, and the same row as bytes
  name_row : ℕ → Question
  name_bytes : ℕ → Question
  -- the memory likewise
  memory_row : Question
  memory_bytes : Question

-- the answer, and the final contents of the buffer that the caller lent
pub record Reply : Type 0 where
  pub answer : Answer
  pub buffer : List ℕ

-- any answer, a number, a refusal
abbrev pub answering : Answer → List ℕ → Reply
answering answer out = record { answer = answer; buffer = out }

abbrev pub value : ℕ → List ℕ → Reply
value n out = answering (Ok (Some n)) out

abbrev pub refusing : ℕ → List ℕ → Reply
refusing n out = answering (Err n) out
