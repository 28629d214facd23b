-- A step back, on the picture's bytes. Assumes nothing.
use Rattle.std.specs.Prelude.{ℕ, pred, ◌+◌, ◌-◌, ◌%◌, cond, List, ◌==◌, nat_le, slice_index, slice_set}
use Rattle.laws.specs.Refusals.{nothing_kept, too_short}
use Rattle.shape.specs.Layout.{count_at, kept_at, next_at, ring_at, old_size, old_at, offset_at}
use Rattle.shape.specs.Result.{Result, refusing, done}
use Rattle.shape.specs.Head.{short, modules_of, kept_of, next_of, before}
use Rattle.stores.specs.Stores.{copied}
use Rattle.stores.specs.Log.{did_enter, number_at}

-- where the bytes that the entry e keeps lay
abbrev pub offset_of : List ℕ → ℕ → ℕ
offset_of b e = number_at b (offset_at e)

-- the entry e undone: its bytes go back where they lay, below the ring; or the module that was entered last is gone; or nothing was done
unfoldable pub undone : List ℕ → ℕ → List ℕ
undone b e =
    cond (nat_le (offset_of b e) (ring_at - old_size)) (copied b (offset_of b e) (old_at e) old_size)
    (cond (offset_of b e == did_enter) (slice_set b count_at (pred (modules_of b))) b)

-- the last entry undone, one step fewer kept, and the ring back at that entry
unfoldable pub back_over : List ℕ → List ℕ
back_over b = slice_set (slice_set (undone b (before (next_of b))) kept_at (pred (kept_of b))) next_at ((slice_index b next_at + 255) % 256)

-- a step back
unfoldable pub stepping_back : List ℕ → Result
stepping_back b = cond (short b) (refusing too_short b) (cond (kept_of b == 0) (refusing nothing_kept b) (done (back_over b)))
