-- The laws of specs/Judging.antt, one step of a loop at a time. Assumes nothing.
use Prim.Native.Nat.{ℕ, ◌+◌, ◌≤◌, ◌<◌}
use native.Mathlib.Numerals.{add-one}
use mathlib.Core.Bool.{Bool, true, false, and-false}
use mathlib.Core.Path.{◌≡◌}
use mathlib.Core.List.{List}
use lib.ListN.{length, get_or, drop, drop_of_length-le}
use lib.Seq.{drop-cons}
use borrow.Author.Tests.{eq-eqb, ne_eqb}
use Rattle.reads.specs.Judging.{all_legal, missed, none_missed, right_plan}
use Rattle.reads.specs.Plan.{least_reads}

-- ---- no cell is missed
pub none_end : (starts row : List ℕ) (cell : ℕ) → length row ≤ cell → none_missed starts cell (drop cell row) ≡ true
unfolding none_missed
none_end starts row cell h = rw (drop_of_length-le row h)

pub none_stop : (starts row : List ℕ) (cell : ℕ) {r : Bool} → cell < length row → r ≡ missed starts cell (get_or row cell 0) → r ≡ true
    → none_missed starts cell (drop cell row) ≡ false
unfolding none_missed
none_stop starts row cell h d t = rw (drop-cons row cell 0 h, ← d, t)

pub none_on : (starts row : List ℕ) (cell : ℕ) {r : Bool} → cell < length row → r ≡ missed starts cell (get_or row cell 0) → r ≡ false
    → none_missed starts cell (drop cell row) ≡ none_missed starts (cell + 1) (drop (cell + 1) row)
unfolding none_missed
none_on starts row cell h d t = rw (drop-cons row cell 0 h, ← d, t, add-one)

-- ---- the whole test
pub wrong_count : (row starts : List ℕ) {n : ℕ} → n ≡ least_reads row → (length starts ≡ n → ⊥) → false ≡ right_plan row starts
unfolding right_plan
wrong_count row starts e d = rw (← e, ne_eqb (length starts) _ d)

pub wrong_start : (row starts : List ℕ) {a : Bool} → a ≡ all_legal (length row) starts → a ≡ false → false ≡ right_plan row starts
unfolding right_plan
wrong_start row starts e d = rw (← e, d, and-false)

pub right_by : (row starts : List ℕ) {n : ℕ} {a r : Bool} → n ≡ least_reads row → length starts ≡ n → a ≡ all_legal (length row) starts → a ≡ true
    → r ≡ none_missed starts 0 row → r ≡ right_plan row starts
unfolding right_plan
right_by row starts e d f t m = rw (← e, eq-eqb (length starts) _ d, ← f, t) m
