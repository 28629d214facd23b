-- The log, from which a step back is undone. Assumes nothing.
use Rattle.std.specs.Prelude.{ℕ, ◌+◌, ◌*◌, ◌/◌, ◌%◌, Bool, cond, ◌&&◌, List, [], ◌∷◌, length, nat_le, nat_lt, slice_index}
use Rattle.places.specs.Places.{places}
use Rattle.shape.specs.Limits.{room}
use Rattle.shape.specs.Layout.{size, place_at, old_size, old_at, offset_at}
use Rattle.shape.specs.Head.{short, next_of}
use Rattle.stores.specs.Stores.{stored, copied}

-- an entry's offset where nothing was written, and where a module was entered
abbrev pub did_nothing : ℕ
did_nothing = 4294967295

abbrev pub did_enter : ℕ
did_enter = 4294967294

-- a number in four bytes, low byte first
abbrev pub number_bytes : ℕ → List ℕ
number_bytes n = n % 256 ∷ n / 256 % 256 ∷ n / 65536 % 256 ∷ n / 16777216 % 256 ∷ []

abbrev pub number_at : List ℕ → ℕ → ℕ
number_at b o = slice_index b o + 256 * slice_index b (o + 1) + 65536 * slice_index b (o + 2) + 16777216 * slice_index b (o + 3)

-- the offset of the entry e, and of the next entry
unfoldable pub noted_at : List ℕ → ℕ → ℕ → List ℕ
noted_at b e offset = stored b (offset_at e) (number_bytes offset) 4

abbrev pub noted : List ℕ → ℕ → List ℕ
noted b offset = noted_at b (next_of b) offset

-- the bytes of eight places from the place start on, as they are, and where they lie, into the next entry
unfoldable pub saved : List ℕ → ℕ → ℕ → List ℕ
saved b s start = noted_at (copied b (old_at (next_of b)) (place_at s start) old_size) (next_of b) (place_at s start)

-- n places from `start` on lie in the record of slot s, in a picture of so many bytes
abbrev pub lies_in : ℕ → ℕ → ℕ → ℕ → Bool
lies_in bytes s start n = nat_le size bytes && (nat_lt s room && nat_le (start + n) places)

-- a note and a save in any bytes: nothing is done where there is no picture, and for a save where the place lies in no record
unfoldable pub noted_in : List ℕ → ℕ → List ℕ
noted_in b offset = cond (short b) b (noted b offset)

unfoldable pub saved_in : List ℕ → ℕ → ℕ → List ℕ
saved_in b s start = cond (lies_in (length b) s start 1) (saved b s start) b
