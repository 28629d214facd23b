-- One step more is kept, and the ring of the log moves on. Assumes nothing.
use Rattle.std.specs.Prelude.{ℕ, suc, ◌+◌, ◌%◌, cond, List, nat_lt, slice_index, slice_set}
use Rattle.shape.specs.Layout.{kept_at, next_at}
use Rattle.shape.specs.Head.{kept_of, depth_of}

-- one step more is kept, up to the depth, and the ring moves on
abbrev pub one_more : List ℕ → List ℕ
one_more b = cond (nat_lt (kept_of b) (depth_of b)) (slice_set b kept_at (suc (kept_of b))) b

unfoldable pub stepped : List ℕ → List ℕ
stepped b = slice_set (one_more b) next_at ((slice_index b next_at + 1) % 256)
