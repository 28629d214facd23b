-- The loop that writes the plan as bytes: known cells passed over, reads for unknown cells before the last block, and the last read. Assumes nothing.
use Prim.Native.Nat.{ℕ, suc, ◌+◌, ◌*◌, ◌/◌, ◌%◌, ◌≤◌, ◌<◌}
use native.Mathlib.Omega.{arith}
use native.Mathlib.Decide.{dec_lt}
use mathlib.Core.Path.{◌≡◌, refl, sym, ap, ◌∙◌}
use mathlib.Core.Bool.{Bool, true, false, cond}
use mathlib.Core.List.{List, [], ◌∷◌}
use lib.ListN.{length, get_or, set, drop, length-drop, length-set}
use lib.Seq.{sets}
use Rattle.shape.specs.Limits.{not_heard}
use Rattle.questions.specs.Fills.{value_at}
use Rattle.questions.specs.Statements.{in_bytes}
use Rattle.reads.specs.Reads.{block, Unknown}
use Rattle.reads.specs.Plan.{unknown, start_for, least_reads, next_unknown}
use Rattle.plan.specs.Replies.{row_at}
use Rattle.reads.proofs.Steps.{rest, rest_whole, rest_more, next_end, next_here, next_is}
use Rattle.plan.proofs.CellRow.{row-length, row-cell, none_here}
use Rattle.plan.proofs.Turns.{Left, bytes_more}

-- the next unknown cell lies between where the search begins and the row's end
bounds : (cell : ℕ) (vs : List ℕ) → (cell ≤ next_unknown cell vs) × (next_unknown cell vs ≤ cell + length vs)
unfolding next_unknown
bounds cell [] = (omega arith, omega arith)
bounds cell (v ∷ vs) = go (unknown v) (next_unknown (cell + 1) vs) (bounds (cell + 1) vs)
  where
    go : (t : Bool) (n : ℕ) → (cell + 1 ≤ n) × (n ≤ cell + 1 + length vs) → (cell ≤ cond t cell n) × (cond t cell n ≤ cell + suc (length vs))
    go true n h = (omega arith, omega arith)
    go false n h = (omega (arith, h.0), omega (arith, h.1))

-- where the next unknown cell is the same, so are the reads
pub same_rest : (row : List ℕ) (cell next : ℕ) → next_unknown cell (drop cell row) ≡ next_unknown next (drop next row) → rest row cell ≡ rest row next
same_rest row cell next e = (next_is row cell (next_unknown cell (drop cell row)) refl).same ∙ sym (next_is row next (next_unknown cell (drop cell row)) e).same

-- the search begun again at what it found finds that
pub next_again : (row : List ℕ) (from r : ℕ) → r ≡ next_unknown from (drop from row) → next_unknown from (drop from row) ≡ next_unknown r (drop r row)
next_again row from r e = sym e ∙ sym (go (dec_lt r (length row)))
  where
    go : Dec (r < length row) → next_unknown r (drop r row) ≡ r
    go (yes h) = next_here row r ((next_is row from r e).found h)
    go (no h) = next_end row r (omega arith)

-- at the beginning the whole plan is left
pub count-begun : (row : List ℕ) → 0 + length (rest row 0) ≡ least_reads row
unfolding least_reads
count-begun row = omega (arith, ap length (rest_whole row))

pub left_begun : (lay : List ℕ → List ℕ) (row old : List ℕ) → Left lay row old old 0 0
left_begun lay row old = ap (λ (l : List ℕ). sets old 0 (lay l)) (rest_whole row)

pub left_same : (lay : List ℕ → List ℕ) (row old out : List ℕ) (to cell next : ℕ) → rest row cell ≡ rest row next → Left lay row old out to cell → Left lay row old out to next
left_same lay row old out to cell next e p = ap (λ (l : List ℕ). sets out to (lay l)) (sym e) ∙ p

-- a start put as two bytes
module _ (row old out : List ℕ) (count start : ℕ) {x : List ℕ} (e : x ≡ set (set out (2 * count) (start % 256)) (2 * count + 1) (start / 256)) where
  pub put-length : length x ≡ length out
  put-length = ap length e ∙ simp length-set

  pub put_left : (cell next : ℕ) → rest row cell ≡ start ∷ rest row next → Left in_bytes row old out (2 * count) cell → Left in_bytes row old x (2 * (count + 1)) next
  put_left cell next q p = ap (λ (o : List ℕ). sets o (2 * (count + 1)) (in_bytes (rest row next))) e ∙ bytes_more row old out count cell start next q p

module _ (b : List ℕ) (at cells : ℕ) where
  abbrev Row : List ℕ
  Row = row_at b at cells

  abbrev Following : ℕ → ℕ
  Following cell = next_unknown cell (drop cell Row)

  pub next_between : (from : ℕ) {r : ℕ} → from ≤ cells → r ≡ next_unknown from (drop from (row_at b at cells)) → (from ≤ r) × (r ≤ cells)
  next_between from h e =
      let w = bounds from (drop from Row) in
      (omega (arith, w.0), omega (arith, w.1, length-drop from Row, row-length b at cells))

  -- ---- known cells
  told_on : ((i : ℕ) → get_or b i 0 < 256) → (cell next : ℕ) → next ≡ cell + 1 → cell < cells → get_or b (at + 2 * cell + 1) 0 ≡ 0 → Following cell ≡ Following next
  told_on bytes cell next e h high =
      none_here b at cells cell (value_at b (at + 2 * cell)) h refl (λ q. omega (arith, bytes (at + 2 * cell))) ∙ ap Following (sym e)

  pub four_passed : ((i : ℕ) → get_or b i 0 < 256) → (cell : ℕ) → cell + block ≤ cells → (value_at b (at + 2 * cell) ≡ not_heard → ⊥)
      → (get_or b (at + 2 * cell + 3) 0 ≡ 0) × (get_or b (at + 2 * cell + 5) 0 ≡ 0) × (get_or b (at + 2 * cell + 7) 0 ≡ 0)
      → next_unknown cell (drop cell (row_at b at cells)) ≡ next_unknown (cell + block) (drop (cell + block) (row_at b at cells))
  four_passed bytes cell h known told =
      let second : at + 2 * (cell + 1) + 1 ≡ at + 2 * cell + 3 = omega arith in
      let third : at + 2 * (cell + 2) + 1 ≡ at + 2 * cell + 5 = omega arith in
      let fourth : at + 2 * (cell + 3) + 1 ≡ at + 2 * cell + 7 = omega arith in
      none_here b at cells cell (value_at b (at + 2 * cell)) (omega arith) refl known
      ∙ told_on bytes (cell + 1) (cell + 2) (omega arith) (omega arith) (ap (λ (i : ℕ). get_or b i 0) second ∙ told.0)
      ∙ told_on bytes (cell + 2) (cell + 3) (omega arith) (omega arith) (ap (λ (i : ℕ). get_or b i 0) third ∙ told.1)
      ∙ told_on bytes (cell + 3) (cell + 4) (omega arith) (omega arith) (ap (λ (i : ℕ). get_or b i 0) fourth ∙ told.2)

  -- ---- unknown cells: one with a block of cells left is itself the start, and no read follows that for one after the last block
  pub block_read : (cell : ℕ) {v : ℕ} → cell + block ≤ cells → v ≡ value_at b (at + 2 * cell) → v ≡ not_heard → rest (row_at b at cells) cell ≡ cell ∷ rest (row_at b at cells) (cell + block)
  block_read cell h e u =
      let here : Unknown Row cell = omega (arith, row-cell b at cells cell (omega arith)) in
      let start : start_for (length Row) cell ≡ cell = omega (arith, row-length b at cells) in
      rest_more Row cell here ∙ ap (λ (c : ℕ). c ∷ rest Row (c + 4)) start

  pub last_read : (cell last : ℕ) {start : ℕ} → cell ≤ cells → cells < cell + block → last ≡ next_unknown cell (drop cell (row_at b at cells)) → last < cells → start ≡ start_for cells last
      → (rest (row_at b at cells) cell ≡ start ∷ rest (row_at b at cells) (start + block)) × (cells ≤ start + block)
  last_read cell last {start} w near e h p =
      let n = next_is Row cell last e in
      let same : start_for (length Row) last ≡ start = ap (λ (m : ℕ). start_for m last) (row-length b at cells) ∙ sym p in
      (n.same ∙ rest_more Row last (n.found (omega (arith, row-length b at cells))) ∙ ap (λ (c : ℕ). c ∷ rest Row (c + 4)) same, omega (arith, (next_between cell w e).0))
