-- A run heard: the bytes that it writes, and the log's entry, which keeps what lay there, are those of the machine. Assumes nothing.
use Prim.Native.Nat.{ℕ, zero, suc, ◌+◌, ◌-◌, ◌*◌, ◌<◌, ◌≤◌}
use native.Mathlib.Omega.{arith}
use native.Mathlib.Nat.{add-zero}
use mathlib.Core.Path.{◌≡◌, refl, sym, ap, ◌∙◌}
use mathlib.Core.Bool.{Bool, true, false, cond}
use mathlib.Core.List.{List, ◌∷◌}
use mathlib.Core.Option.{none}
use lib.Dec.{ltb}
use lib.ListN.{get_or, set, length, get_or-eq_default}
use borrow.Author.Tests.{ltb-true, ltb-false, lt-ltb, le-leb, eq-eqb}
use Rattle.laws.specs.Tab.{tab}
use Rattle.laws.proofs.Tab.{length-tab, get_d_tab, tab_ext}
use Rattle.shape.specs.Limits.{room}
use Rattle.places.specs.Places.{most_places, places}
use Rattle.places.specs.Runs.{Run}
use Rattle.places.specs.Fitting.{end_of}
use Rattle.shape.specs.Layout.{record_size, record_at, kind_at, place_at, ring_at, entry_size, old_size, old_at, offset_at, size}
use Rattle.shape.specs.Head.{next_of}
use Rattle.stores.specs.Stores.{written, copied}
use Rattle.stores.specs.Log.{saved}
use Rattle.history.specs.Machine.{Cell, Module, wrote, olds_from, olds, told_by}
use Rattle.history.specs.Refinement.{record_of, place_of, cell_at, module_at, old_cell, wrote_at, undo_at, state_of, Good}
use Rattle.history.proofs.Stores.{Within, within-then, within_wider, laid-within, copied_lays, copied_at, within-written, row, written_row}
use Rattle.history.proofs.Parts.{module_apart, next_small, good_within, record-changed, logs_still, Does}
use Rattle.history.proofs.Noted.{within_offset, offset_is, does_entry}

-- a row of places, by each place
pub row_at : (b : List ℕ) (s n p : ℕ) → get_or (row b s n) p none ≡ cond (ltb p n) (cell_at b (place_at s p)) none
row_at b s n p = go (ltb p n) refl
  where
    go : (c : Bool) → ltb p n ≡ c → get_or (row b s n) p none ≡ cond c (cell_at b (place_at s p)) none
    go true e = get_d_tab n (λ p. cell_at b (place_at s p)) p none (ltb-true p n e)
    go false e = get_or-eq_default (row b s n) none (rw length-tab (ltb-false p n e))

-- the old contents, by each place
olds-tab : (l : List Cell) (i n : ℕ) → olds_from l i n ≡ tab n (λ j. get_or l (i + j) none)
unfolding olds_from tab
olds-tab l i zero = refl
olds-tab l i (suc n) =
    rw (add-zero i, olds-tab l (suc i) n)
    (ap {B = List Cell} (λ k. get_or l i none ∷ k)
    (tab_ext n (λ j. get_or l (suc i + j) none) (λ j. get_or l (i + suc j) none) (λ j h. let e : suc i + j ≡ i + suc j = omega arith in rw e)))

-- a run written into a record
module _ (c : List ℕ) (s : ℕ) (r : Run) (whole : size ≤ length c) (slot-ok : s < room) (fit : end_of r ≤ places) where
  abbrev told : List ℕ
  told = written c (place_at s r.start) r.says

  pub within-told : Within (place_at s 0) (record_at s + record_size) c told
  within-told = within_wider (omega arith) (omega arith) (within-written c (place_at s r.start) r.says)

  pub told_module : module_at told s ≡ told_by r (module_at c s)
  unfolding module_at told_by
  told_module =
      rw (
        within-told.outside (record_at s) (λ p q. omega arith),
        within-told.outside (kind_at s) (λ p q. omega arith),
        written_row c s places r.start r.says (omega arith),
      )

-- eight places kept in the next entry
module _ (b : List ℕ) (s start : ℕ) (good : Good b) (slot-ok : s < room) (begins : start < places) where
  abbrev e : ℕ
  e = next_of b

  abbrev copy : List ℕ
  copy = copied b (old_at e) (place_at s start) old_size

  within_copy : Within (old_at e) (old_at e + old_size) b copy
  within_copy = laid-within (copied_lays b (old_at e) (place_at s start)) old_size

  whole_copy : size ≤ length copy
  whole_copy = rw within_copy.long good.whole

  within_last : Within (offset_at e) (offset_at e + 4) copy (saved b s start)
  unfolding saved
  within_last = within_offset copy e (place_at s start) whole_copy (next_small b)

  within-saved : Within (old_at e) (old_at e + entry_size) b (saved b s start)
  within-saved = within-then (within_wider (omega arith) (omega arith) within_copy) (within_wider (omega arith) (omega arith) within_last)

  old_byte : (o k : ℕ) → o ≡ old_at e + k → k < old_size → get_or (saved b s start) o 0 ≡ get_or b (place_at s start + k) 0
  old_byte o k q h =
      within_last.outside o (λ p m. omega arith)
      ∙ rw q (copied_at b (old_at e) (place_at s start) old_size k (λ i l p m. omega (arith, next_small b)) h (omega (arith, next_small b, good.whole)))

  old_cell_lem : (i : ℕ) → i < most_places → cell_at (saved b s start) (old_at e + 2 * i) ≡ cell_at b (place_at s (start + i))
  unfolding cell_at
  old_cell_lem i l =
      let p : place_at s start + 2 * i ≡ place_at s (start + i) = omega arith in
      let q : place_at s start + (2 * i + 1) ≡ place_at s (start + i) + 1 = omega arith in
      rw (old_byte (old_at e + 2 * i) (2 * i) refl (omega arith), old_byte (old_at e + 2 * i + 1) (2 * i + 1) (omega arith) (omega arith), p, q)

  old_cells : tab most_places (old_cell (saved b s start) e start) ≡ olds (module_at b s).places start
  unfolding module_at
  old_cells =
      tab_ext most_places (old_cell (saved b s start) e start) (λ j. get_or (row b s places) (start + j) none)
      (λ i l. ap (λ (x : Cell). cond (ltb (start + i) places) x none) (old_cell_lem i l) ∙ sym (row_at b s places (start + i)))
      ∙ sym (olds-tab (row b s places) start most_places)

  wrote_is : wrote_at (saved b s start) e (place_at s start) ≡ wrote s start (olds (module_at b s).places start)
  unfolding wrote_at
  wrote_is =
      let record_is : record_of (place_at s start) ≡ s = omega arith in
      let place_is : place_of (place_at s start) ≡ start = omega arith in
      rw (record_is, place_is, eq-eqb (place_at s start) (place_at s start) refl, lt-ltb start places begins, old_cells)

  does_saved : Does b (saved b s start) (wrote s start (olds (module_at b s).places start)) (state_of b).modules
  unfolding undo_at saved
  does_saved =
      does_entry b (saved b s start) _ good within-saved
      (rw (offset_is copy e (place_at s start) whole_copy (next_small b) (omega arith), le-leb (place_at s start) (ring_at - old_size) (omega arith)) wrote_is)

  saved_module : module_at (saved b s start) s ≡ module_at b s
  saved_module = module_apart within-saved s (λ o p q m n. omega arith)

-- the record alone changed after it
module _ (b : List ℕ) (s : ℕ) (r : Run) (good : Good b) (slot-ok : s < room) (begins : r.start < places) (fit : end_of r ≤ places) where
  pub does_told : Does b (written (saved b s r.start) (place_at s r.start) r.says) (wrote s r.start (olds (module_at b s).places r.start))
      (set (state_of b).modules s (told_by r (module_at b s)))
  does_told =
      let d = does_saved b s r.start good slot-ok begins in
      let w = within-told (saved b s r.start) s r d.good.whole slot-ok fit in
      record {
        good = good_within w (λ p q. omega arith) (λ a l p q. omega arith) (λ j l p q. omega arith) d.good;
        logs = logs_still w (λ p q. omega arith) (omega arith) d.logs;
        modules_are =
            record-changed s (told_by r (module_at b s)) (within_wider (omega arith) (omega arith) w)
            (λ l. told_module (saved b s r.start) s r d.good.whole slot-ok fit ∙ ap (told_by r) (saved_module b s r.start good slot-ok begins))
            ∙ ap (λ (ms : List Module). set ms s (told_by r (module_at b s))) d.modules_are;
      }
