-- What a block read is, and when a list of block reads is a right plan for a memory row.
-- A memory row has one number for each cell of the module: 0 to 255 as told, 256 for not heard. Nothing here depends on how many cells there are.
use Rattle.std.specs.Prelude.{ℕ, ◌+◌, ◌-◌, ◌≤◌, ◌<◌, ◌≡◌, ◌⊎◌, List, [], ◌∷◌, length, get_or}
use Rattle.shape.specs.Limits.{not_heard}

-- the cell is not told; past the row's end there is no cell, and so no unknown one
abbrev pub Unknown : List ℕ → ℕ → Type 0
Unknown row cell = get_or row cell 0 ≡ not_heard

-- how many cells a block read reads
abbrev pub block : ℕ
block = 4

-- the last start allowed on a module of so many cells: 124 of 128, 252 of 256. (Of fewer than four, which no module has: 0.)
abbrev pub last_start_of : ℕ → ℕ
last_start_of cells = cells - block

-- ---- one read
abbrev pub Legal : List ℕ → ℕ → Type 0
Legal row start = start ≤ last_start_of (length row)

-- a block read at start reads the cells start, start + 1, start + 2 and start + 3
abbrev pub Reads : ℕ → ℕ → Type 0
Reads start cell = (start ≤ cell) × (cell < start + block)

-- ---- a list of reads, in any order
abbrev pub AllLegal : List ℕ → List ℕ → Type 0
AllLegal row [] = Unit {0}
AllLegal row (start ∷ starts) = Legal row start × AllLegal row starts

-- one of the reads reads the cell
abbrev pub ReadBy : List ℕ → ℕ → Type 0
ReadBy [] cell = ⊥
ReadBy (start ∷ starts) cell = Reads start cell ⊎ ReadBy starts cell

-- no unknown cell is missed
abbrev pub Covers : List ℕ → List ℕ → Type 0
Covers row starts = (cell : ℕ) → Unknown row cell → ReadBy starts cell

-- no list of legal reads that misses no unknown cell is shorter than n
abbrev pub NoneShorter : List ℕ → ℕ → Type 0
NoneShorter row n = (starts : List ℕ) → AllLegal row starts → Covers row starts → n ≤ length starts

pub record RightPlan (row starts : List ℕ) : Type 0 where
  pub legal : AllLegal row starts
  pub covers : Covers row starts
  pub fewest : NoneShorter row (length starts)

-- n is the least number of reads that miss no unknown cell: some right plan has that many
abbrev pub LeastNumber : List ℕ → ℕ → Type 0
LeastNumber row n = (starts : List ℕ) × (RightPlan row starts × (length starts ≡ n))
