-- The laws of specs/Plan.antt, one step of a loop at a time. Assumes nothing.
use Prim.Native.Nat.{ℕ, zero, suc, ◌+◌, ◌-◌, ◌≤◌, ◌<◌}
use native.Mathlib.Omega.{arith}
use native.Mathlib.Numerals.{add-one}
use native.Mathlib.Decide.{dec_lt}
use native.Mathlib.Nat.{add-zero}
use mathlib.Core.Bool.{Bool, true, false, cond}
use mathlib.Core.Path.{◌≡◌, refl, sym, ap, ◌∙◌}
use mathlib.Core.List.{List, [], ◌∷◌}
use lib.ListN.{length, get_or, drop, length-drop, drop_of_length-le, get_or-eq_default}
use lib.Seq.{drop-cons, drop-drop, get_or-drop}
use borrow.Author.Tests.{eq-eqb, ne_eqb, eqb-true}
use Rattle.shape.specs.Limits.{not_heard}
use Rattle.reads.specs.Reads.{Unknown}
use Rattle.reads.specs.Plan.{unknown, start_for, plan_from, plan_of, least_reads, next_unknown}

-- only a cell of the row is unknown
pub inside : (row : List ℕ) (cell : ℕ) → Unknown row cell → cell < length row
inside row cell u = go (dec_lt cell (length row))
  where
    go : Dec (cell < length row) → cell < length row
    go (yes h) = h
    go (no h) = absurd (omega (arith, get_or-eq_default row 0 {n = cell} (omega arith)))

-- ---- the cells from `cell` on
pub next_cell : (row : List ℕ) (cell v : ℕ) (vs : List ℕ) → v ∷ vs ≡ drop cell row → vs ≡ drop (cell + 1) row
next_cell row cell v vs e = ap (drop 1) e ∙ drop-drop 1 cell row

pub this_cell : (row : List ℕ) (cell v : ℕ) (vs : List ℕ) → v ∷ vs ≡ drop cell row → get_or row cell 0 ≡ v
this_cell row cell v vs e = ap (λ (c : ℕ). get_or row c 0) (sym (add-zero cell)) ∙ sym (get_or-drop cell row 0 0) ∙ sym (ap (λ (l : List ℕ). get_or l 0 0) e)

pub in_row : (row : List ℕ) (cell v : ℕ) (vs : List ℕ) → v ∷ vs ≡ drop cell row → cell < length row
in_row row cell v vs e = omega (arith, ap length e, length-drop cell row)

-- ---- the reads for the cells from `cell` on, where none of them is read already
unfoldable pub rest : List ℕ → ℕ → List ℕ
rest row cell = plan_from (length row) cell 0 (drop cell row)

pub rest_whole : (row : List ℕ) → rest row 0 ≡ plan_of row
unfolding rest plan_of
rest_whole row = refl

pub rest_none : (row : List ℕ) (cell : ℕ) → length row ≤ cell → rest row cell ≡ []
unfolding rest plan_from
rest_none row cell h = rw (drop_of_length-le row h)

-- cells that are read already are passed over
skip : (cells cell k : ℕ) (vs : List ℕ) → plan_from cells cell k vs ≡ plan_from cells (cell + k) 0 (drop k vs)
unfolding plan_from
skip cells cell zero vs = rw add-zero
skip cells cell (suc k) [] = refl
skip cells cell (suc k) (v ∷ vs) = skip cells (cell + 1) k vs ∙ ap (λ (c : ℕ). plan_from cells c 0 (drop k vs)) (omega arith)

here : (cells cell v : ℕ) (vs : List ℕ) → v ≡ not_heard → plan_from cells cell 0 (v ∷ vs) ≡ start_for cells cell ∷ plan_from cells (cell + 1) 3 vs
unfolding plan_from
here cells cell v vs u = simp (eq-eqb v not_heard u)

passed : (cells cell v : ℕ) (vs : List ℕ) → unknown v ≡ false → plan_from cells cell 0 (v ∷ vs) ≡ plan_from cells (cell + 1) 0 vs
unfolding plan_from
passed cells cell v vs e = simp e

-- a read at the last allowed start leaves nothing, as four cells on from the unknown cell would
four_on : (row : List ℕ) (cell : ℕ) → cell < length row → rest row (cell + 4) ≡ rest row (start_for (length row) cell + 4)
four_on row cell h = go (dec_lt (length row - 4) cell)
  where
    go : Dec (length row - 4 < cell) → rest row (cell + 4) ≡ rest row (start_for (length row) cell + 4)
    go (yes l) = rest_none row (cell + 4) (omega arith) ∙ sym (rest_none row (start_for (length row) cell + 4) (omega arith))
    go (no l) = ap (λ (c : ℕ). rest row (c + 4)) (omega arith)

pub rest_more : (row : List ℕ) (cell : ℕ) → Unknown row cell → rest row cell ≡ start_for (length row) cell ∷ rest row (start_for (length row) cell + 4)
unfolding rest
rest_more row cell u =
    let h = inside row cell u in
    let a : cell + 1 + 3 ≡ cell + 4 = omega arith in
    let b : suc cell + 3 ≡ cell + 4 = omega arith in
    ap (plan_from (length row) cell 0) (drop-cons row cell 0 h)
    ∙ here (length row) cell (get_or row cell 0) (drop (suc cell) row) u
    ∙ ap (λ (l : List ℕ). start_for (length row) cell ∷ l)
    (skip (length row) (cell + 1) 3 (drop (suc cell) row)
    ∙ ap (plan_from (length row) (cell + 1 + 3) 0) (drop-drop 3 (suc cell) row)
    ∙ ap (λ (c : ℕ). plan_from (length row) c 0 (drop (suc cell + 3) row)) a
    ∙ ap (λ (c : ℕ). plan_from (length row) (cell + 4) 0 (drop c row)) b
    ∙ four_on row cell h)

-- ---- the next unknown cell
pub next_end : (row : List ℕ) (cell : ℕ) → length row ≤ cell → next_unknown cell (drop cell row) ≡ cell
unfolding next_unknown
next_end row cell h = rw (drop_of_length-le row h)

pub next_here : (row : List ℕ) (cell : ℕ) → Unknown row cell → next_unknown cell (drop cell row) ≡ cell
unfolding next_unknown
next_here row cell u = rw (drop-cons row cell 0 (inside row cell u), eq-eqb (get_or row cell 0) not_heard u)

pub next_on : (row : List ℕ) (cell : ℕ) → cell < length row → (get_or row cell 0 ≡ not_heard → ⊥) → next_unknown cell (drop cell row) ≡ next_unknown (cell + 1) (drop (cell + 1) row)
unfolding next_unknown
next_on row cell h u = rw (drop-cons row cell 0 h, ne_eqb (get_or row cell 0) not_heard u, add-one)

-- it is unknown, unless it lies past the row's end, and the reads from it on are the reads from `cell` on
pub record Next (row : List ℕ) (cell next : ℕ) : Type 0 where
  pub found : next < length row → Unknown row next
  pub same : rest row cell ≡ rest row next

on : (row : List ℕ) (cell v : ℕ) (vs : List ℕ) → unknown v ≡ false → v ∷ vs ≡ drop cell row → rest row cell ≡ rest row (cell + 1)
unfolding rest
on row cell v vs t e =
    ap (plan_from (length row) cell 0) (sym e) ∙ passed (length row) cell v vs t ∙ ap (plan_from (length row) (cell + 1) 0) (next_cell row cell v vs e)

next_go : (b : Bool) (row : List ℕ) (cell v : ℕ) (vs : List ℕ) → unknown v ≡ b → v ∷ vs ≡ drop cell row → Next row (cell + 1) (next_unknown (cell + 1) vs)
    → Next row cell (cond b cell (next_unknown (cell + 1) vs))
next_go true row cell v vs t e n = record { found = λ h. rw (this_cell row cell v vs e) (eqb-true v not_heard t); same = refl }
next_go false row cell v vs t e n = record { found = n.found; same = on row cell v vs t e ∙ n.same }

next_of : (row : List ℕ) (cell : ℕ) (vs : List ℕ) → vs ≡ drop cell row → Next row cell (next_unknown cell vs)
unfolding next_unknown
next_of row cell [] e = record { found = λ h. absurd (omega (arith, ap length e, length-drop cell row)); same = refl }
next_of row cell (v ∷ vs) e = next_go (unknown v) row cell v vs refl e (next_of row (cell + 1) vs (next_cell row cell v vs e))

pub next_is : (row : List ℕ) (cell next : ℕ) → next ≡ next_unknown cell (drop cell row) → Next row cell next
next_is row cell next q = rw q (next_of row cell (drop cell row) refl)

-- there is a read for an unknown cell
pub some_left : (row : List ℕ) (cell : ℕ) → Unknown row cell → 0 < length (rest row cell)
some_left row cell u = omega (arith, ap length (rest_more row cell u))

-- ---- one turn of a loop over the reads: a start for an unknown cell, and the next unknown cell after what is then read
abbrev pub Turn : List ℕ → ℕ → ℕ → ℕ → Type 0
Turn row cell start next = (start ≡ start_for (length row) cell) × (next ≡ next_unknown (start + 4) (drop (start + 4) row))

pub turn_found : (row : List ℕ) (cell start next : ℕ) → Turn row cell start next → next < length row → Unknown row next
turn_found row cell start next t = (next_is row (start + 4) next t.1).found

pub turn_more : (row : List ℕ) (cell start next : ℕ) → Turn row cell start next → Unknown row cell → rest row cell ≡ start ∷ rest row next
turn_more row cell start next t u =
    let m : rest row cell ≡ start ∷ rest row (start + 4) = rw t.0 (rest_more row cell u) in
    m ∙ ap (λ (l : List ℕ). start ∷ l) (next_is row (start + 4) next t.1).same

-- ---- the count so far, with what is left, is the count
pub record Counted (row : List ℕ) (count cell : ℕ) : Type 0 where
  pub found : cell < length row → Unknown row cell
  pub total : count + length (rest row cell) ≡ least_reads row

pub count-first : {row : List ℕ} {cell : ℕ} → cell ≡ next_unknown 0 row → Counted row 0 cell
unfolding least_reads
count-first {row} {cell} q =
    let n = next_is row 0 cell q in
    record { found = n.found; total = omega (arith, ap length (sym (rest_whole row) ∙ n.same)) }

module _ {row : List ℕ} {count cell : ℕ} (d : Counted row count cell) where
  pub count_room : cell < length row → count < least_reads row
  count_room h = omega (arith, d.total, some_left row cell (d.found h))

  pub left_less : {start next : ℕ} → cell < length row → Turn row cell start next → length (rest row next) < length (rest row cell)
  left_less {start} {next} h t = omega (arith, ap length (turn_more row cell start next t (d.found h)))

  pub count-more : {start next : ℕ} → cell < length row → Turn row cell start next → Counted row (count + 1) next
  count-more {start} {next} h t =
      record { found = turn_found row cell start next t; total = omega (arith, d.total, ap length (turn_more row cell start next t (d.found h))) }

  pub count_all : length row ≤ cell → count ≡ least_reads row
  count_all h = omega (arith, d.total, ap length (rest_none row cell h))
