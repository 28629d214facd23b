-- The numbers that the paper fixes for recordings.
use Rattle.std.specs.Prelude.{ℕ, ◌+◌, ◌*◌, Bool, ◌&&◌, leb}
use Rattle.laws.specs.Limits.{most_identifier, most_bytes}

-- a gap up to; the unit is not in the file
abbrev pub most_gap : ℕ
most_gap = 34359738367

-- in so many groups
abbrev pub gap_groups : ℕ
gap_groups = 5

-- in older recordings up to, in four groups
abbrev pub old_most_gap : ℕ
old_most_gap = 268435455

-- a remote flag up to
abbrev pub most_remote : ℕ
most_remote = 1

-- the word, 2 × identifier + remote flag, up to
abbrev pub most_word : ℕ
most_word = 2 * most_identifier + most_remote

-- in so many groups
abbrev pub word_groups : ℕ
word_groups = 2

-- a count of data bytes up to
abbrev pub most_count : ℕ
most_count = most_bytes

-- in so many groups
abbrev pub count_groups : ℕ
count_groups = 1

-- so a record has at most so many bytes
abbrev pub longest : ℕ
longest = gap_groups + word_groups + count_groups + most_count

-- every number of a record is in its range
unfoldable pub in_range : ℕ → ℕ → ℕ → ℕ → Bool
in_range gap identifier remote count = leb gap most_gap && (leb identifier most_identifier && (leb remote most_remote && leb count most_count))
