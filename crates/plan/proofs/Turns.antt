-- The loops over the reads of a plan, a turn at a time: the count, and what is written. Assumes nothing.
use Prim.Native.Nat.{ℕ, suc, ◌+◌, ◌*◌, ◌/◌, ◌%◌, ◌≤◌, ◌<◌}
use native.Mathlib.Omega.{arith}
use native.Mathlib.Numerals.{add-one}
use mathlib.Core.Path.{◌≡◌, refl, sym, ap, ◌∙◌}
use mathlib.Core.List.{List, [], ◌∷◌, ◌++◌}
use lib.ListN.{length, set, drop}
use lib.Seq.{sets}
use Rattle.laws.proofs.Stores.{sets_front}
use Rattle.questions.specs.Statements.{in_bytes}
use Rattle.questions.proofs.RowBytes.{length_bytes}
use Rattle.reads.specs.Reads.{block}
use Rattle.reads.specs.Plan.{start_for, plan_of, least_reads, next_unknown}
use Rattle.plan.specs.Replies.{row_at}
use Rattle.reads.proofs.Steps.{rest, rest_whole, rest_none, next_is, Turn, turn_more, Counted, count_room, left_less, count-more, count_all}
use Rattle.reads.proofs.Fewest.{quarter_is_enough}
use Rattle.plan.proofs.CellRow.{row-length, past_row}

-- ---- the count
-- no plan has more starts than there are cells
pub few_reads : (b : List ℕ) (at cells : ℕ) → 4 * least_reads (row_at b at cells) ≤ cells + 3
few_reads b at cells = omega (arith, quarter_is_enough (row_at b at cells), row-length b at cells)

module _ {row : List ℕ} {cells count cell : ℕ} (e : length row ≡ cells) (d : Counted row count cell) where
  pub more_to_read : cell < cells → count < least_reads row
  more_to_read h = count_room d (omega arith)

  pub all_read : cells ≤ cell → count ≡ least_reads row
  all_read h = count_all d (omega arith)

  module _ {start next : ℕ} (h : cell < cells) (p : start ≡ start_for cells cell) (q : next ≡ next_unknown (start + block) (drop (start + block) row)) where
    turn : Turn row cell start next
    turn = (p ∙ ap (λ (n : ℕ). start_for n cell) (sym e), q)

    pub fewer_left : length (rest row next) < length (rest row cell)
    fewer_left = left_less d (omega arith) turn

    pub one_more_lem : Counted row (count + 1) next
    one_more_lem = count-more d (omega arith) turn

    pub left_of : rest row cell ≡ start ∷ rest row next
    left_of = turn_more row cell start next turn (d.found (omega arith))

-- ---- what is written: what is left of the plan, stored from `to` on, makes the whole of it
abbrev pub Left : (List ℕ → List ℕ) → List ℕ → List ℕ → List ℕ → ℕ → ℕ → Type 0
Left lay row old out to cell = sets out to (lay (rest row cell)) ≡ sets old 0 (lay (plan_of row))

pub all_left : (lay : List ℕ → List ℕ) (row old : List ℕ) (cell : ℕ) → cell ≡ next_unknown 0 row → Left lay row old old 0 cell
all_left lay row old cell q = ap (λ (l : List ℕ). sets old 0 (lay l)) (sym (sym (rest_whole row) ∙ (next_is row 0 cell q).same))

none_left : (lay : List ℕ → List ℕ) (row old out : List ℕ) (to cell : ℕ) → lay [] ≡ [] → length row ≤ cell → length (lay (plan_of row)) ≤ length old → Left lay row old out to cell
    → out ≡ lay (plan_of row) ++ drop (length (lay (plan_of row))) old
none_left lay row old out to cell e h fits p =
    sym (ap (sets out to) (ap lay (rest_none row cell h) ∙ e)) ∙ p ∙ sets_front old (lay (plan_of row)) fits

-- entries
pub entry_more : (row old out : List ℕ) (count cell start next : ℕ) → rest row cell ≡ start ∷ rest row next → Left (λ l. l) row old out count cell
    → Left (λ l. l) row old (set out count start) (count + 1) next
entry_more row old out count cell start next e p = rw add-one (sym (ap (sets out count) e) ∙ p)

pub entries_all : (b : List ℕ) (at cells : ℕ) (old out : List ℕ) (count cell : ℕ) → cells ≤ cell → least_reads (row_at b at cells) ≤ length old
    → Left (λ l. l) (row_at b at cells) old out count cell → out ≡ plan_of (row_at b at cells) ++ drop (length (plan_of (row_at b at cells))) old
unfolding least_reads
entries_all b at cells old out count cell h fits p = none_left (λ l. l) (row_at b at cells) old out count cell refl (past_row b at cells cell h) fits p

-- bytes
pub bytes_more : (row old out : List ℕ) (count cell start next : ℕ) → rest row cell ≡ start ∷ rest row next → Left in_bytes row old out (2 * count) cell
    → Left in_bytes row old (set (set out (2 * count) (start % 256)) (2 * count + 1) (start / 256)) (2 * (count + 1)) next
unfolding in_bytes
bytes_more row old out count cell start next e p =
    let two : 2 * (count + 1) ≡ suc (suc (2 * count)) = omega arith in
    rw (two, add-one) (sym (ap (λ (l : List ℕ). sets out (2 * count) (in_bytes l)) e) ∙ p)

pub bytes_all : (b : List ℕ) (at cells : ℕ) (old out : List ℕ) (count cell : ℕ) → cells ≤ cell → 2 * least_reads (row_at b at cells) ≤ length old
    → Left in_bytes (row_at b at cells) old out (2 * count) cell → out ≡ in_bytes (plan_of (row_at b at cells)) ++ drop (length (in_bytes (plan_of (row_at b at cells)))) old
unfolding least_reads in_bytes
bytes_all b at cells old out count cell h fits p =
    none_left in_bytes (row_at b at cells) old out (2 * count) cell refl (past_row b at cells cell h) (omega (arith, length_bytes (plan_of (row_at b at cells)))) p
