-- The row of places that lies in a picture, and the laws of specs/Plan.antt over it, one step of a loop at a time. Assumes nothing.
use Prim.Native.Nat.{ℕ, ◌+◌, ◌*◌, ◌/◌, ◌≤◌, ◌<◌}
use native.Mathlib.Omega.{arith}
use mathlib.Core.Path.{◌≡◌, refl, sym, ap, ◌∙◌}
use mathlib.Core.List.{List}
use mathlib.Core.Bool.{Bool}
use lib.ListN.{length, get_or, set, take, drop}
use lib.Seq.{take-suc-set}
use native.Mathlib.Numerals.{add-one}
use Rattle.laws.specs.Tab.{tab}
use Rattle.laws.proofs.Tab.{length-tab, get_d_tab, tab_snoc}
use Rattle.shape.specs.Limits.{not_heard}
use Rattle.questions.specs.Fills.{value_at}
use Rattle.reads.specs.Plan.{next_unknown}
use Rattle.reads.specs.Judging.{all_legal, missed}
use Rattle.plan.specs.Replies.{row_at, starts_in}
use Rattle.reads.proofs.Steps.{next_end, next_here, next_on}

module _ (b : List ℕ) (at cells : ℕ) where
  pub row-length : length (row_at b at cells) ≡ cells
  unfolding row_at
  row-length = length-tab cells (λ i. value_at b (at + 2 * i))

  pub row-cell : (cell : ℕ) → cell < cells → get_or (row_at b at cells) cell 0 ≡ value_at b (at + 2 * cell)
  unfolding row_at
  row-cell cell h = get_d_tab cells (λ i. value_at b (at + 2 * i)) cell 0 h

  pub in_row : (cell : ℕ) → cell < cells → cell < length (row_at b at cells)
  in_row cell h = omega (arith, row-length)

  pub past_row : (cell : ℕ) → cells ≤ cell → length (row_at b at cells) ≤ cell
  past_row cell h = omega (arith, row-length)

  -- ---- the next unknown cell
  pub found_here : (cell value : ℕ) → cell < cells → value ≡ value_at b (at + 2 * cell) → value ≡ not_heard → next_unknown cell (drop cell (row_at b at cells)) ≡ cell
  found_here cell value h e u = next_here (row_at b at cells) cell (omega (arith, row-cell cell h))

  pub none_here : (cell value : ℕ) → cell < cells → value ≡ value_at b (at + 2 * cell) → (value ≡ not_heard → ⊥)
      → next_unknown cell (drop cell (row_at b at cells)) ≡ next_unknown (cell + 1) (drop (cell + 1) (row_at b at cells))
  none_here cell value h e u = next_on (row_at b at cells) cell (in_row cell h) (omega (arith, row-cell cell h))

  pub none_left : (cell : ℕ) → cells ≤ cell → next_unknown cell (drop cell (row_at b at cells)) ≡ cell
  none_left cell h = next_end (row_at b at cells) cell (past_row cell h)

  -- a cell judged by its number
  pub judged-cell : (cell : ℕ) → cell < cells → (starts : List ℕ) {value : ℕ} {r : Bool} → value ≡ value_at b (at + 2 * cell) → r ≡ missed starts cell value
      → r ≡ missed starts cell (get_or (row_at b at cells) cell 0)
  judged-cell cell h starts e d = d ∙ ap (missed starts cell) (e ∙ sym (row-cell cell h))

  -- the starts judged by the number of cells
  pub legal_row : (starts : List ℕ) {r : Bool} → r ≡ all_legal cells starts → r ≡ all_legal (length (row_at b at cells)) starts
  legal_row starts e = e ∙ ap (λ (n : ℕ). all_legal n starts) (sym row-length)

-- ---- a row gathered number by number
pub gathered_none : (b out : List ℕ) → take 0 out ≡ row_at b 0 0
unfolding row_at tab
gathered_none b out = refl

pub gathered-more : (b out : List ℕ) (i : ℕ) {v : ℕ} → i < length out → take i out ≡ row_at b 0 i → v ≡ get_or b (2 * i) 0 + 256 * get_or b (2 * i + 1) 0
    → take (i + 1) (set out i v) ≡ row_at b 0 (i + 1)
unfolding row_at
gathered-more b out i {v} h p e =
    let z : 0 + 2 * i ≡ 2 * i = omega arith in
    rw (add-one, take-suc-set out i v h, p, tab_snoc i (λ i. value_at b (0 + 2 * i)), z, e)

pub gathered_all : (b out : List ℕ) (i : ℕ) → i ≡ length b / 2 → take i out ≡ row_at b 0 i → take (length b / 2) out ≡ starts_in b
gathered_all b out i e p = rw (← e) p
