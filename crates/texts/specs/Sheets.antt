-- What the listing counts of a module.
use Rattle.std.specs.Prelude.{ℕ, ◌+◌, List, [], Bool, false, cond, eqb, replicate, Some, None, Ok, Err}
use Rattle.shape.specs.Answers.{Answer}
use Rattle.shape.specs.Limits.{not_heard}
use Rattle.places.specs.Places.{name_length}
use Rattle.questions.specs.Question.{cell, name_row}
use Rattle.questions.specs.Fills.{sum_to}
use Rattle.questions.specs.Replies.{reply}
use Rattle.replay.specs.Replay.{one}

-- 1 for a name that is whole: all its characters are heard
abbrev pub is_whole : Answer → Bool
is_whole (Ok (Some heard)) = eqb heard name_length
is_whole (Ok None) = false
is_whole (Err n) = false

unfoldable pub whole_name : List ℕ → ℕ → ℕ → ℕ
whole_name b address name = one (is_whole (reply b address (name_row name) (replicate name_length 0)).answer)

-- 1 for a value, 0 for not heard and for no place
abbrev pub told_if : Answer → ℕ
told_if (Ok (Some v)) = 1
told_if (Ok None) = 0
told_if (Err n) = 0

-- the same of a number in a row
abbrev pub told_number : ℕ → ℕ
told_number n = cond (eqb n not_heard) 0 1

-- 1 for a cell that is told
unfoldable pub told_cell : List ℕ → ℕ → ℕ → ℕ
told_cell b address location = told_if (reply b address (cell location) []).answer

-- of the names 1 to n, how many are whole
abbrev pub whole_names : List ℕ → ℕ → ℕ → ℕ
whole_names b address n = sum_to (λ i. whole_name b address (i + 1)) n

-- of the cells below n, how many are told
abbrev pub told_cells : List ℕ → ℕ → ℕ → ℕ
told_cells b address n = sum_to (told_cell b address) n
