-- What a call that may write a picture leaves: its answer, and the picture's bytes. Assumes nothing.
use Rattle.shape.specs.Answers.{Outcome}
use Rattle.std.specs.Prelude.{ℕ, List, Ok, Err}

pub record Result : Type 0 where
  pub outcome : Outcome
  pub buffer : List ℕ

-- a refusal's number, with the bytes as they were
abbrev pub refusing : ℕ → List ℕ → Result
refusing n b = record { outcome = Err n; buffer = b }

abbrev pub done : List ℕ → Result
done b = record { outcome = Ok tt; buffer = b }
