-- What a log entry's bytes put back is what the machine's entry puts back. Assumes nothing.
use Prim.Native.Nat.{ℕ, zero, suc, pred, ◌+◌, ◌*◌, ◌-◌, ◌<◌, ◌≤◌}
use native.Mathlib.Omega.{arith}
use native.Mathlib.Nat.{add-zero}
use mathlib.Core.Path.{◌≡◌, refl, sym, ap, ◌∙◌}
use mathlib.Core.Bool.{Bool, true, false, cond, ◌&&◌}
use mathlib.Core.List.{List, [], ◌∷◌}
use mathlib.Core.Option.{none}
use lib.Dec.{eqb, ltb, leb}
use lib.ListN.{get_or, set, length, length-set}
use lib.Seq.{ext_get_or, get_or-set_same, get_or-set_other}
use borrow.Author.Tests.{eqb-true, ltb-true, ltb-false, lt-ltb, leb-true}
use Rattle.laws.specs.Tab.{tab}
use Rattle.laws.proofs.Tab.{length-tab, get_d_tab, tab_ext, tab_snoc}
use Rattle.laws.proofs.Testing.{and_both}
use Rattle.shape.specs.Limits.{room, ring}
use Rattle.places.specs.Places.{most_places, places}
use Rattle.shape.specs.Layout.{count_at, slot_at, record_size, record_at, kind_at, place_at, ring_at, old_size, old_at, size}
use Rattle.shape.specs.Head.{modules_of, depth_of}
use Rattle.stores.specs.Stores.{copied}
use Rattle.stores.specs.Log.{did_enter}
use Rattle.stores.specs.Stepping.{offset_of, undone}
use Rattle.history.specs.Machine.{Cell, Module, nobody, Undo, same, entered, wrote, lost, restore, restored, but_last, undo}
use Rattle.history.specs.Refinement.{record_of, place_of, cell_at, module_at, old_cell, wrote_at, undo_at, state_of, Good, Found}
use Rattle.history.proofs.Modules.{but_last-append}
use Rattle.history.proofs.Stores.{Within, within_wider, within-set, laid-within, copied_lays, copied_at, cell_outside, row}
use Rattle.history.proofs.Parts.{module_apart, undo-apart, modules_few, depth_by, modules_stored, good_still, good_within, record-changed}
use Rattle.history.proofs.Told.{row_at}

but_last-none : (f : ℕ → Module) → but_last (tab 0 f) ≡ tab 0 f
unfolding but_last tab
but_last-none f = refl

but_last-tab : (n : ℕ) (f : ℕ → Module) → but_last (tab n f) ≡ tab (pred n) f
but_last-tab zero f = but_last-none f
but_last-tab (suc n) f = rw (tab_snoc n f) (but_last-append (tab n f) (f n))

-- the machine's restoring, by its elements
restore-length : (l : List Cell) (i : ℕ) (os : List Cell) → length (restore l i os) ≡ length l
unfolding restore
restore-length l i [] = refl
restore-length l i (o ∷ os) = length-set (restore l (suc i) os) i o ∙ restore-length l (suc i) os

restore_out : (l : List Cell) (i : ℕ) (os : List Cell) (p : ℕ) → (i ≤ p → p < i + length os → ⊥) → get_or (restore l i os) p none ≡ get_or l p none
unfolding restore
restore_out l i [] p h = refl
restore_out l i (o ∷ os) p h =
    get_or-set_other (restore l (suc i) os) i p o none (λ q. h (omega arith) (omega arith)) ∙ restore_out l (suc i) os p (λ x y. h (omega arith) (omega arith))

restore_in : (l : List Cell) (i : ℕ) (os : List Cell) (j : ℕ) → j < length os → i + j < length l → get_or (restore l i os) (i + j) none ≡ get_or os j none
unfolding restore
restore_in l i [] j h k = absurd (omega arith)
restore_in l i (o ∷ os) zero h k = rw add-zero (get_or-set_same (restore l (suc i) os) i o none (rw restore-length (omega arith)))
restore_in l i (o ∷ os) (suc j) h k =
    let e : i + suc j ≡ suc i + j = omega arith in
    rw e (get_or-set_other (restore l (suc i) os) i (suc i + j) o none (omega arith) ∙ restore_in l (suc i) os j (omega arith) (omega arith))

-- the eight places of the log entry e put back from the place i of the record s on
module _ (b : List ℕ) (e s i : ℕ) (whole : size ≤ length b) (e-ok : e < ring) (s-ok : s < room) (begins : i < places) where
  abbrev c : List ℕ
  c = copied b (place_at s i) (old_at e) old_size

  cw : Within (place_at s i) (place_at s i + old_size) b c
  cw = laid-within (copied_lays b (place_at s i) (old_at e)) old_size

  within_back : Within (place_at s 0) (record_at s + record_size) b c
  within_back = within_wider (omega arith) (omega arith) cw

  copied_byte : (o k o' : ℕ) → o ≡ place_at s i + k → k < old_size → old_at e + k ≡ o' → get_or c o 0 ≡ get_or b o' 0
  copied_byte o k o' h l m = rw h (copied_at b (place_at s i) (old_at e) old_size k (λ x p q t. omega arith) l (omega arith) ∙ rw m)

  copied-cell : (j : ℕ) → j < most_places → cell_at c (place_at s (i + j)) ≡ cell_at b (old_at e + 2 * j)
  unfolding cell_at
  copied-cell j l =
      rw (
        copied_byte (place_at s (i + j)) (2 * j) (old_at e + 2 * j) (omega arith) (omega arith) (omega arith),
        copied_byte (place_at s (i + j) + 1) (2 * j + 1) (old_at e + 2 * j + 1) (omega arith) (omega arith) (omega arith),
      )

  abbrev os : List Cell
  os = tab most_places (old_cell b e i)

  os_length : length os ≡ most_places
  os_length = length-tab most_places (old_cell b e i)

  row-length : (d : List ℕ) → length (row d s places) ≡ places
  row-length d = length-tab places (λ p. cell_at d (place_at s p))

  row_is : (d : List ℕ) (p : ℕ) → p < places → get_or (row d s places) p none ≡ cell_at d (place_at s p)
  row_is d p l = row_at d s places p ∙ rw (lt-ltb p places l)

  row_in : (j : ℕ) → j < most_places → i + j < places → get_or (row c s places) (i + j) none ≡ get_or (restore (row b s places) i os) (i + j) none
  row_in j k l =
      row_is c (i + j) l
      ∙ copied-cell j k
      ∙ sym (restore_in (row b s places) i os j (rw os_length k) (rw row-length l) ∙ get_d_tab most_places (old_cell b e i) j none k ∙ rw (lt-ltb (i + j) places l))

  row_out : (p : ℕ) → p < places → (i ≤ p → p < i + most_places → ⊥) → get_or (row c s places) p none ≡ get_or (restore (row b s places) i os) p none
  row_out p l d =
      row_is c p l
      ∙ cell_outside cw (place_at s p) (λ o x y f g. d (omega arith) (omega arith))
      ∙ sym (restore_out (row b s places) i os p (λ x y. d x (rw os_length at y)) ∙ row_is b p l)

  restored-row : row c s places ≡ restore (row b s places) i os
  restored-row =
      ext_get_or none (row c s places) (restore (row b s places) i os) (row-length c ∙ sym (restore-length (row b s places) i os ∙ row-length b))
      (λ p l. go p (rw (row-length c) at l) (ltb p i) (ltb p (i + most_places)) refl refl)
    where
      go : (p : ℕ) → p < places → (x y : Bool) → ltb p i ≡ x → ltb p (i + most_places) ≡ y → get_or (row c s places) p none ≡ get_or (restore (row b s places) i os) p none
      go p l true y t u = let h = ltb-true p i t in row_out p l (λ f g. omega arith)
      go p l false true t u =
          let h = ltb-false p i t in
          let k = ltb-true p (i + most_places) u in
          let q : i + (p - i) ≡ p = omega arith in
          rw q at (row_in (p - i) (omega arith) (omega arith))
      go p l false false t u = let k = ltb-false p (i + most_places) u in row_out p l (λ f g. omega arith)

  restored_module : module_at c s ≡ restored i os (module_at b s)
  unfolding module_at restored
  restored_module =
      rw (within_back.outside (record_at s) (λ p q. omega arith), within_back.outside (kind_at s) (λ p q. omega arith), restored-row)

  restored_modules : (state_of c).modules ≡ undo (wrote s i os) (state_of b).modules
  unfolding undo state_of
  restored_modules =
      record-changed s (restored i os (get_or (tab (modules_of b) (module_at b)) s nobody)) (within_wider (omega arith) (omega arith) within_back)
      (λ l. restored_module ∙ ap (restored i os) (sym (get_d_tab (modules_of b) (module_at b) s nobody l)))

-- What an entry undoes, by the two sides.
pub record Undone (b c : List ℕ) (u : Undo) : Type 0 where
  pub good : Good c
  pub depth_is : depth_of c ≡ depth_of b
  pub modules_are : (state_of c).modules ≡ undo u (state_of b).modules
  pub undo_is : (j : ℕ) → undo_at c j ≡ undo_at b j

module _ (b : List ℕ) (e : ℕ) (good : Good b) (e-ok : e < ring) where
  nothing_undone : Undone b b same
  unfolding undo
  nothing_undone = record { good = good; depth_is = refl; modules_are = refl; undo_is = λ j. refl }

  last_undone : Undone b (set b count_at (pred (modules_of b))) entered
  unfolding undo state_of
  last_undone =
      let w = within-set b count_at (pred (modules_of b)) in
      let n : modules_of (set b count_at (pred (modules_of b))) ≡ pred (modules_of b) = modules_stored b (pred (modules_of b)) good.whole (omega (arith, modules_few b)) in
      record {
        good =
            good_still b (set b count_at (pred (modules_of b))) good w.long (omega arith) (λ s h. w.outside (record_at s) (λ p q. omega arith))
            (λ a h. w.outside (slot_at a) (λ p q. omega arith));
        depth_is = depth_by w (λ p q. omega arith);
        modules_are =
            rw n
            (tab_ext (pred (modules_of b)) (module_at (set b count_at (pred (modules_of b)))) (module_at b) (λ j l. module_apart w j (λ o p q x y. omega arith))
            ∙ sym (but_last-tab (modules_of b) (module_at b)));
        undo_is = λ j. undo-apart w j (λ o p q x y. omega arith);
      }

  -- bytes put back at an offset
  abbrev back : ℕ → Undo
  back o = wrote (record_of o) (place_of o) (tab most_places (old_cell b e (place_of o)))

  back_at_lem : (o : ℕ) → o ≤ ring_at - old_size → Found (wrote_at b e o) → Undone b (copied b o (old_at e) old_size) (wrote_at b e o)
  unfolding wrote_at
  back_at_lem o low = go (eqb (place_at (record_of o) (place_of o)) o && ltb (place_of o) places) refl
    where
      go : (t : Bool) → (eqb (place_at (record_of o) (place_of o)) o && ltb (place_of o) places) ≡ t → Found (cond t (back o) lost) → Undone b (copied b o (old_at e) old_size) (cond t (back o) lost)
      go false t found = absurd found
      go true t found =
          let f = and_both (eqb (place_at (record_of o) (place_of o)) o) (ltb (place_of o) places) t in
          let q : place_at (record_of o) (place_of o) ≡ o = eqb-true (place_at (record_of o) (place_of o)) o f.0 in
          let begins : place_of o < places = ltb-true (place_of o) places f.1 in
          let s-ok : record_of o < room = omega arith in
          let w = within_back b e (record_of o) (place_of o) good.whole e-ok s-ok begins in
          let u : Undone b (copied b (place_at (record_of o) (place_of o)) (old_at e) old_size) (back o) =
          record {
            good = good_within w (λ p q. omega arith) (λ a l p q. omega arith) (λ s l p q. omega arith) good;
            depth_is = depth_by w (λ p q. omega arith);
            modules_are = restored_modules b e (record_of o) (place_of o) good.whole e-ok s-ok begins;
            undo_is = λ j. undo-apart w j (λ o p q x y. omega arith);
          } in
          rw q at u

  abbrev entry : Bool → Bool → Undo
  entry low enter = cond low (wrote_at b e (offset_of b e)) (cond enter entered same)

  pub undone_is : Found (undo_at b e) → Undone b (undone b e) (undo_at b e)
  unfolding undone undo_at
  undone_is = go (leb (offset_of b e) (ring_at - old_size)) (eqb (offset_of b e) did_enter) refl
    where
      go : (low enter : Bool) → leb (offset_of b e) (ring_at - old_size) ≡ low → Found (entry low enter)
          → Undone b (cond low (copied b (offset_of b e) (old_at e) old_size) (cond enter (set b count_at (pred (modules_of b))) b)) (entry low enter)
      go true enter t found = back_at_lem (offset_of b e) (leb-true (offset_of b e) (ring_at - old_size) t) found
      go false true t found = last_undone
      go false false t found = nothing_undone
