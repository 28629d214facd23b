-- A fresh picture: no module, nothing kept, and a depth of the way back; whatever lay in the rest is never read again. Assumes nothing.
use Rattle.std.specs.Prelude.{ℕ, zero, suc, cond, List, nat_lt, slice_set}
use Rattle.laws.specs.Refusals.{no_such_place, too_short}
use Rattle.shape.specs.Limits.{most_depth}
use Rattle.shape.specs.Layout.{depth_at, head_size}
use Rattle.shape.specs.Result.{Result, refusing, done}
use Rattle.shape.specs.Head.{short}

-- the first n bytes, made 0
unfoldable pub zeroed : List ℕ → ℕ → List ℕ
zeroed b zero = b
zeroed b (suc n) = slice_set (zeroed b n) n 0

-- the bytes of it
abbrev pub fresh_bytes : List ℕ → ℕ → List ℕ
fresh_bytes b depth = slice_set (zeroed b head_size) depth_at depth

-- with a depth that is named: 12 where there is none such
unfoldable pub freshening_with : List ℕ → ℕ → Result
freshening_with b depth = cond (short b) (refusing too_short b) (cond (nat_lt most_depth depth) (refusing no_such_place b) (done (fresh_bytes b depth)))

-- naming none gives the greatest
unfoldable pub freshening : List ℕ → Result
freshening b = freshening_with b most_depth
