-- What steers, for every list of bytes. A byte past the end reads as 0. Assumes nothing.
use Rattle.std.specs.Prelude.{ℕ, pred, ◌+◌, ◌%◌, min, Bool, cond, ◌&&◌, List, eqb, ltb, length, get_or}
use Rattle.kinds.specs.Types.{no_type}
use Rattle.shape.specs.Limits.{room, ring}
use Rattle.shape.specs.Layout.{count_at, kept_at, next_at, depth_at, slot_at, record_at, kind_at, size}

-- too short for a picture
abbrev pub short : List ℕ → Bool
short b = ltb (length b) size

-- the number of modules and the ring's next entry, each within its range whatever the byte is; the count kept and the depth, which steer no index
unfoldable pub modules_of : List ℕ → ℕ
modules_of b = min room (get_or b count_at 0)

unfoldable pub kept_of : List ℕ → ℕ
kept_of b = get_or b kept_at 0

unfoldable pub depth_of : List ℕ → ℕ
depth_of b = get_or b depth_at 0

unfoldable pub next_of : List ℕ → ℕ
next_of b = get_or b next_at 0 % ring

-- the ring's entry before and after the entry e
abbrev pub before : ℕ → ℕ
before e = (e + pred ring) % ring

abbrev pub following : ℕ → ℕ
following e = (e + 1) % ring

-- the slot of an address: what the table says, if it is a module's slot and that module has the address; else none
abbrev pub no_slot : ℕ
no_slot = room

unfoldable pub believed : List ℕ → ℕ → ℕ → Bool
believed b a s = ltb s (modules_of b) && eqb (get_or b (record_at s) 0) a

unfoldable pub slot_of : List ℕ → ℕ → ℕ
slot_of b a = cond (believed b a (get_or b (slot_at a) 0)) (get_or b (slot_at a) 0) no_slot

-- the type of the module in a slot; none for no slot
unfoldable pub kind_in : List ℕ → ℕ → ℕ
kind_in b s = cond (ltb s room) (get_or b (kind_at s) 0) no_type
