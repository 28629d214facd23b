-- The test of a proposed plan: as many reads as the least number, each legal, and no unknown cell missed.
use Rattle.std.specs.Prelude.{ℕ, ◌+◌, Bool, true, false, ◌&&◌, ◌||◌, not, List, [], ◌∷◌, length, leb, ltb, eqb}
use Rattle.reads.specs.Reads.{block, last_start_of}
use Rattle.reads.specs.Plan.{unknown, least_reads}

unfoldable pub all_legal : ℕ → List ℕ → Bool
all_legal cells [] = true
all_legal cells (start ∷ starts) = leb start (last_start_of cells) && all_legal cells starts

abbrev pub reads : ℕ → ℕ → Bool
reads start cell = leb start cell && ltb cell (start + block)

unfoldable pub read_by : List ℕ → ℕ → Bool
read_by [] cell = false
read_by (start ∷ starts) cell = reads start cell || read_by starts cell

-- a cell with this value is unknown and none of the reads reads it
unfoldable pub missed : List ℕ → ℕ → ℕ → Bool
missed starts cell value = unknown value && not (read_by starts cell)

-- none of the cells from `cell` on, whose values are listed, is missed
unfoldable pub none_missed : List ℕ → ℕ → List ℕ → Bool
none_missed starts cell [] = true
none_missed starts cell (v ∷ vs) = not (missed starts cell v) && none_missed starts (cell + 1) vs

unfoldable pub right_plan : List ℕ → List ℕ → Bool
right_plan row starts = eqb (length starts) (least_reads row) && (all_legal (length row) starts && none_missed starts 0 row)
