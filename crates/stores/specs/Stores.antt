-- Bytes stored and copied. A store past the end stores nothing, and a byte past the end reads as 0. Assumes nothing.
use Rattle.std.specs.Prelude.{ℕ, zero, suc, ◌+◌, ◌*◌, cond, List, [], ◌∷◌, length, nat_le, slice_index, slice_set}
use Rattle.places.specs.Runs.{Saying, silent, asks, tells}

-- the two bytes of a place
abbrev pub pair : List ℕ → ℕ → ℕ → ℕ → List ℕ
pair b o v t = slice_set (slice_set b o v) (o + 1) t

-- a place that is told, and one that is not heard
abbrev pub told_pair : List ℕ → ℕ → ℕ → List ℕ
told_pair b o v = pair b o v 0

abbrev pub blank_pair : List ℕ → ℕ → List ℕ
blank_pair b o = pair b o 0 1

-- what is said of the place at o
unfoldable pub put_at : List ℕ → ℕ → Saying → List ℕ
put_at b o silent = b
put_at b o asks = blank_pair b o
put_at b o (tells v) = told_pair b o v

-- what is said of neighbouring places, the first of which is at o
unfoldable pub written : List ℕ → ℕ → List Saying → List ℕ
written b o [] = b
written b o (x ∷ xs) = written (put_at b o x) (o + 2) xs

-- n places from o, made unknown
unfoldable pub blanked : List ℕ → ℕ → ℕ → List ℕ
blanked b o zero = b
blanked b o (suc n) = blank_pair (blanked b o n) (o + 2 * n)

-- the first n bytes of a row, stored from o
unfoldable pub stored : List ℕ → ℕ → List ℕ → ℕ → List ℕ
stored b o row zero = b
stored b o row (suc n) = slice_set (stored b o row n) (o + n) (slice_index row n)

-- eight bytes stored from o, where they have room
unfoldable pub stored_in : List ℕ → ℕ → List ℕ → List ℕ
stored_in b o row = cond (nat_le (o + 8) (length b)) (stored b o row 8) b

-- n bytes copied, one after the other
abbrev pub copy_one : List ℕ → ℕ → ℕ → List ℕ
copy_one b to from = slice_set b to (slice_index b from)

unfoldable pub copied : List ℕ → ℕ → ℕ → ℕ → List ℕ
copied b to from zero = b
copied b to from (suc n) = copy_one (copied b to from n) (to + n) (from + n)
