-- The result word of a frame taken by a bench.
use Rattle.std.specs.Prelude.{ℕ}
use Rattle.results.specs.Words.{word}
use Rattle.taking.specs.Taking.{taken_numbers, Taken}

-- the number of replies, or the refusal
abbrev pub taken_word : Taken → ℕ
taken_word t = word (taken_numbers t)
