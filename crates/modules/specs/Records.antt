-- Records made, on the picture's bytes. Assumes nothing.
use Rattle.std.specs.Prelude.{ℕ, suc, cond, not, List, eqb, ltb, length, set}
use Rattle.laws.specs.Refusals.{no_room, too_short}
use Rattle.laws.specs.Tests.{unless}
use Rattle.places.specs.Places.{places}
use Rattle.places.specs.Runs.{Run}
use Rattle.shape.specs.Limits.{room}
use Rattle.shape.specs.Layout.{count_at, kept_at, slot_at, record_at, kind_at, place_at}
use Rattle.shape.specs.Head.{short, modules_of}
use Rattle.steering.specs.Steps.{stepped}
use Rattle.stores.specs.Stores.{written, blanked}
use Rattle.stores.specs.Log.{did_enter, noted, lies_in}

-- a new record in slot s: every place unknown, ...
unfoldable pub blank_record : List ℕ → ℕ → ℕ → ℕ → List ℕ
blank_record b s a kind = blanked (set (set b (record_at s) a) (kind_at s) kind) (place_at s 0) places

-- ... with the build told
unfoldable pub new_record : List ℕ → ℕ → ℕ → ℕ → Run → List ℕ
new_record b s a kind r = written (blank_record b s a kind) (place_at s r.start) r.says

-- a module more: its slot is the number of modules so far
unfoldable pub listed_at : List ℕ → ℕ → ℕ → List ℕ
listed_at b s a = set (set b (slot_at a) s) count_at (suc s)

-- a module entered
unfoldable pub entered_bytes : List ℕ → ℕ → ℕ → Run → List ℕ
entered_bytes b a kind r = stepped (listed_at (new_record (noted b did_enter) (modules_of b) a kind r) (modules_of b) a)

-- a module exchanged, which empties the way back
unfoldable pub exchanged_bytes : List ℕ → ℕ → ℕ → ℕ → Run → List ℕ
exchanged_bytes b s a kind r = set (new_record b s a kind r) kept_at 0

-- whether a module can enter: 13, then 10
unfoldable pub enter_number : List ℕ → ℕ
enter_number b = unless (not (short b)) too_short (unless (ltb (modules_of b) room) no_room 0)

-- a module entered where it can
unfoldable pub entered_in : List ℕ → ℕ → ℕ → Run → List ℕ
entered_in b a kind r = cond (eqb (enter_number b) 0) (entered_bytes b a kind r) b

-- the module in slot s exchanged; nothing is done where there is no such slot
unfoldable pub exchanged_in : List ℕ → ℕ → ℕ → ℕ → Run → List ℕ
exchanged_in b s a kind r = cond (lies_in (length b) s 0 places) (exchanged_bytes b s a kind r) b
