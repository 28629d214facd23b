-- The row of a module's memory and the questions on its cells say the same of each cell. Assumes nothing.
use Prim.Native.Nat.{ℕ, zero, suc, ◌+◌, ◌≤◌, ◌<◌}
use native.Mathlib.Omega.{arith}
use mathlib.Core.Path.{◌≡◌, refl, sym, ap, ◌∙◌}
use mathlib.Core.Bool.{Bool, true, false, ◌&&◌, cond}
use mathlib.Core.List.{List, []}
use lib.Dec.{eqb, ltb}
use lib.ListN.{length, get_or, set, replicate, length-replicate, get_or-replicate}
use lib.Seq.{get_or-set_other}
use borrow.Author.Tests.{eqb-true, eqb-false, eq-eqb, ne_eqb, lt-ltb, le-ltb, ltb-true, ltb-false, le-leb}
use Rattle.laws.specs.Limits.{AllBytes}
use Rattle.laws.specs.Refusals.{type_not_known, too_short}
use Rattle.kinds.specs.Types.{extent_of}
use Rattle.shape.specs.Limits.{room, not_heard}
use Rattle.places.specs.Places.{places, nowhere, cell_place, cell_asked, cell_row}
use Rattle.shape.specs.Layout.{place_at}
use Rattle.shape.specs.Head.{short, kind_in}
use Rattle.places.proofs.Fitting.{extents_small}
use Rattle.questions.specs.Question.{Reply, cell, memory_row, refusing}
use Rattle.questions.specs.Fills.{filled_to, filling, value_at, row_number, numbers_fill, sum_to}
use Rattle.questions.specs.Replies.{slot_asked, answer_at, place_reply, reply_as, reply_in, reply}
use Rattle.questions.proofs.Replying.{not_heard_lem, heard}
use Rattle.questions.proofs.Filling.{filled_at, sum_ext}
use Rattle.texts.specs.Sheets.{told_if, told_number, told_cell, told_cells}

-- what a place's number says is what its answer says
number-answer : (b : List ℕ) (o : ℕ) → AllBytes b → told_number (value_at b o) ≡ told_if (answer_at b o)
number-answer b o bytes = go (eqb (value_at b o) not_heard) (eqb-true (value_at b o) not_heard) (eqb-false (value_at b o) not_heard)
  where
    go : (t : Bool) → (t ≡ true → value_at b o ≡ not_heard) → (t ≡ false → value_at b o ≡ not_heard → ⊥) → cond t 0 1 ≡ told_if (answer_at b o)
    go true p q = rw (not_heard_lem (get_or b o 0) (get_or b (o + 1) 0) (omega (arith, bytes o)) (p refl))
    go false p q = rw (heard (get_or b o 0) (get_or b (o + 1) 0) (q refl))

-- what was not filled is as it was
filled_beyond : (f : ℕ → ℕ) (out : List ℕ) (n i : ℕ) → n ≤ i → get_or (filled_to f out n) i 0 ≡ get_or out i 0
unfolding filled_to
filled_beyond f out zero i h = refl
filled_beyond f out (suc n) i h =
    get_or-set_other (filled_to f out n) n i (f n) 0 (λ (e : i ≡ n). omega arith) ∙ filled_beyond f out n i (omega arith)

module _ (b : List ℕ) (a : ℕ) (bytes : AllBytes b) (row : List ℕ) (fresh : row ≡ replicate 256 not_heard) (i : ℕ) (l : i < 256) where
  abbrev S : ℕ
  S = slot_asked b a

  abbrev K : ℕ
  K = kind_in b S

  untouched : told_number (get_or row i 0) ≡ 0
  untouched = rw (ap (λ (r : List ℕ). get_or r i 0) fresh ∙ get_or-replicate 256 i not_heard 0 l)

  wide : (extent_of K).cells ≤ length row
  wide = omega (arith, (extents_small K).cells_small, ap length fresh ∙ length-replicate 256 not_heard)

  in_slot : told_number (get_or (numbers_fill 0 b S (cell_row K) row).buffer i 0) ≡ told_if (place_reply b S (cell_asked K i) []).answer
  unfolding numbers_fill filling place_reply cell_asked
  in_slot = rw (le-leb (extent_of K).cells (length row) wide) (go (ltb i (extent_of K).cells) refl)
    where
      go : (t : Bool) → ltb i (extent_of K).cells ≡ t
          → told_number (get_or (filled_to (row_number b S (cell_row K)) row (extent_of K).cells) i 0) ≡ told_if (place_reply b S (cond t (cell_place K i) nowhere) []).answer
      go true e =
          rw (filled_at (row_number b S (cell_row K)) row (extent_of K).cells i wide (ltb-true i (extent_of K).cells e), lt-ltb (256 + i) places (omega arith))
          (number-answer b (place_at S (256 + i)) bytes)
      go false e = rw (filled_beyond (row_number b S (cell_row K)) row (extent_of K).cells i (omega (arith, ltb-false i (extent_of K).cells e))) untouched

  -- a reply by the tests on the picture and on the slot
  abbrev by : Bool → Bool → Reply → List ℕ → Reply
  by s t r out = cond s (refusing too_short out) (cond t r (refusing type_not_known out))

  each : told_number (get_or (reply b a memory_row row).buffer i 0) ≡ told_cell b a i
  unfolding reply reply_in reply_as told_cell
  each = go (short b) (ltb S room)
    where
      go : (s t : Bool) → told_number (get_or (by s t (numbers_fill 0 b S (cell_row K) row) row).buffer i 0) ≡ told_if (by s t (place_reply b S (cell_asked K i) []) []).answer
      go true t = untouched
      go false true = in_slot
      go false false = untouched

-- so the sum over the row is the number of told cells
pub cells_told :
    (b : List ℕ) (a n : ℕ) → AllBytes b → (row : List ℕ) → row ≡ replicate 256 not_heard → n ≤ 256 → {x : List ℕ} → x ≡ (reply b a memory_row row).buffer
    → sum_to (λ i. told_number (get_or x i 0)) n ≡ told_cells b a n
cells_told b a n bytes row fresh few e = rw e (sum_ext (λ i. told_number (get_or (reply b a memory_row row).buffer i 0)) (told_cell b a) n (λ i l. each b a bytes row fresh i (omega arith)))
