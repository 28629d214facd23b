-- The plan of reads for a memory row.
use Rattle.std.specs.Prelude.{ℕ, zero, suc, pred, ◌+◌, min, Bool, true, false, cond, List, [], ◌∷◌, length, eqb}
use Rattle.shape.specs.Limits.{not_heard}
use Rattle.reads.specs.Reads.{block, last_start_of}

abbrev pub unknown : ℕ → Bool
unknown value = eqb value not_heard

-- the start of the read that is made for an unknown cell: the cell or, if lower, the last allowed start
abbrev pub start_for : ℕ → ℕ → ℕ
start_for cells cell = min cell (last_start_of cells)

abbrev pub with_read : Bool → ℕ → List ℕ → List ℕ
with_read true start starts = start ∷ starts
with_read false start starts = starts

-- the reads for the cells from `cell` on, whose values are listed, of a module of `cells` cells; the first `read` of them are read already.
-- A read that is made for an unknown cell reads the rest of a block after it too.
unfoldable pub plan_from : ℕ → ℕ → ℕ → List ℕ → List ℕ
plan_from cells cell read [] = []
plan_from cells cell (suc read) (v ∷ vs) = plan_from cells (cell + 1) read vs
plan_from cells cell zero (v ∷ vs) = with_read (unknown v) (start_for cells cell) (plan_from cells (cell + 1) (cond (unknown v) (pred block) 0) vs)

unfoldable pub plan_of : List ℕ → List ℕ
plan_of row = plan_from (length row) 0 0 row

-- how many reads the plan holds
unfoldable pub least_reads : List ℕ → ℕ
least_reads row = length (plan_of row)

-- the lowest unknown cell of the listed ones, of which the first is `cell`; the cell past the last where all are known
unfoldable pub next_unknown : ℕ → List ℕ → ℕ
next_unknown cell [] = cell
next_unknown cell (v ∷ vs) = cond (unknown v) cell (next_unknown (cell + 1) vs)
