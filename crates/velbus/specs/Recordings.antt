-- The result word of a record put into a buffer.
use Rattle.std.specs.Prelude.{ℕ, Result}
use Rattle.recorder.specs.Write.{put_numbers}
use Rattle.results.specs.Words.{word}

-- the count of the bytes written (a record has 16 at most), or the refusal
abbrev pub put_word : Result ℕ ℕ → ℕ
put_word p = word (put_numbers p)
