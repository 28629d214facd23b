-- Every answer in the paper's numbers. Each kind of answer has one definition that gives them, and its promises and C's words go by it.
use Rattle.std.specs.Prelude.{ℕ}

-- a value, 0 where there is none to tell, or the number of a refusal
pub data Numbers : Type 0 where
  value : ℕ → Numbers
  refusal : ℕ → Numbers

-- the number of the refusal, 0 where there is none
abbrev pub refusal_in : Numbers → ℕ
refusal_in (value v) = 0
refusal_in (refusal n) = n

-- a refusal, or what is answered after it
abbrev pub unless_refusal : Numbers → Numbers → Numbers
unless_refusal (value v) later = later
unless_refusal (refusal n) later = refusal n
