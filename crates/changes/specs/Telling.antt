-- Places told, on the picture's bytes. Assumes nothing.
use Rattle.std.specs.Prelude.{ℕ, Bool, true, false, cond, not, ◌&&◌, List, [], ◌∷◌, length, nat_lt}
use Rattle.places.specs.Runs.{Saying, Run}
use Rattle.shape.specs.Limits.{room}
use Rattle.shape.specs.Layout.{place_at}
use Rattle.shape.specs.Head.{short}
use Rattle.steering.specs.Steps.{stepped}
use Rattle.stores.specs.Stores.{written}
use Rattle.stores.specs.Log.{did_nothing, noted, saved, lies_in}

-- a run heard by the module in slot s
unfoldable pub told_bytes : List ℕ → ℕ → Run → List ℕ
told_bytes b s r = stepped (written (saved b s r.start) (place_at s r.start) r.says)

-- a step with no effect
unfoldable pub same_bytes : List ℕ → List ℕ
same_bytes b = stepped (noted b did_nothing)

-- a frame that names a run: a run of no place has no effect, nor has any at an address with no module
abbrev pub is_empty : List Saying → Bool
is_empty [] = true
is_empty (x ∷ xs) = false

unfoldable pub naming : List ℕ → ℕ → Run → List ℕ
naming b s r = cond (nat_lt s room && not (is_empty r.says)) (told_bytes b s r) (same_bytes b)

-- a run told where it lies in a record; else nothing is done
unfoldable pub told_in : List ℕ → ℕ → Run → List ℕ
told_in b s r = cond (lies_in (length b) s r.start (length r.says)) (told_bytes b s r) b

-- a step with no effect, in a picture
unfoldable pub passed_in : List ℕ → List ℕ
passed_in b = cond (short b) b (same_bytes b)
