-- Each module and each log entry goes by its own bytes, and what steers by the head; so what a change of a few bytes leaves as it was. Assumes nothing.
use Prim.Native.Nat.{ℕ, suc, ◌+◌, ◌*◌, ◌<◌, ◌≤◌, min, ◌%◌}
use native.Mathlib.Omega.{arith}
use mathlib.Core.Path.{◌≡◌, refl, sym, ap, ◌∙◌}
use mathlib.Core.Bool.{Bool, true, false, cond}
use mathlib.Core.Logic.{◌≢◌}
use mathlib.Core.List.{List, ◌∷◌}
use mathlib.Core.Option.{none}
use lib.Dec.{ltb}
use lib.ListN.{get_or, set, length, take, length-set}
use lib.Seq.{get_or-set_same, get_or-set_other, set-get_or}
use borrow.Author.Tests.{ltb-true, ltb-false, le-ltb}
use Rattle.laws.specs.Tab.{tab}
use Rattle.laws.proofs.Tab.{tab_ext, tab-set, length-tab}
use Rattle.shape.specs.Limits.{room, ring, addresses}
use Rattle.places.specs.Places.{most_places, places}
use Rattle.shape.specs.Layout.{count_at, kept_at, next_at, depth_at, slot_at, record_size, record_at, kind_at, place_at, ring_at, entry_size, old_at, offset_at, size}
use Rattle.shape.specs.Head.{short, modules_of, kept_of, next_of, depth_of, before, following}
use Rattle.steering.specs.Steps.{one_more, stepped}
use Rattle.stores.specs.Stepping.{offset_of}
use Rattle.history.specs.Machine.{Cell, Module, nobody, Undo, same, State}
use Rattle.history.specs.Refinement.{place_of, cell_at, old_cell, wrote_at, module_at, undo_at, entries, state_of, Good}
use Rattle.history.proofs.Ring.{push, length-entries}
use Rattle.history.proofs.Stores.{Within, within-then, within_wider, within-set, Apart, cell_outside}

-- what steers
pub modules_few : (b : List ℕ) → modules_of b ≤ room
unfolding modules_of
modules_few b = omega arith

pub next_small : (b : List ℕ) → next_of b < ring
unfolding next_of
next_small b = omega arith

following_is : (b : List ℕ) → (get_or b next_at 0 + 1) % 256 % ring ≡ following (next_of b)
unfolding next_of
following_is b = omega arith

pub before_is : (b : List ℕ) → (get_or b next_at 0 + 255) % 256 % ring ≡ before (next_of b)
unfolding next_of
before_is b = omega arith

pub modules_stored : (b : List ℕ) (n : ℕ) → size ≤ length b → n ≤ room → modules_of (set b count_at n) ≡ n
unfolding modules_of
modules_stored b n l h = rw (get_or-set_same b count_at n 0 (omega arith)) (omega arith)

-- the count kept is the length of the log
pub kept_is : (b : List ℕ) → length (state_of b).log ≡ kept_of b
unfolding state_of
kept_is b = length-entries (tab ring (undo_at b)) (next_of b) (kept_of b)

-- good bytes are enough
pub enough : (b : List ℕ) → Good b → short b ≡ false
enough b good = le-ltb (length b) size good.whole

-- a state by its two parts
pub state_is : (b : List ℕ) (ms : List Module) (us : List Undo) → tab (modules_of b) (module_at b) ≡ ms → entries (tab ring (undo_at b)) (next_of b) (kept_of b) ≡ us
    → state_of b ≡ record { modules = ms; log = us }
unfolding state_of
state_is b ms us p q = rw (p, q)

-- the table stays good where no module's address and no entry of the table changes
pub good_still : (b c : List ℕ) → Good b → length c ≡ length b → modules_of c ≤ modules_of b
    → ((s : ℕ) → s < room → get_or c (record_at s) 0 ≡ get_or b (record_at s) 0) → ((a : ℕ) → a < addresses → get_or c (slot_at a) 0 ≡ get_or b (slot_at a) 0)
    → Good c
good_still b c good l m heads table =
    record {
      whole = rw l good.whole;
      small = λ s h. rw (heads s (omega (arith, modules_few b))) (good.small s (omega arith));
      table = λ s h.
          rw (heads s (omega (arith, modules_few b)), table (get_or b (record_at s) 0) (good.small s (omega arith))) (good.table s (omega arith));
    }

-- ---- bytes from lo up to hi changed
module _ {lo hi : ℕ} {b c : List ℕ} (w : Within lo hi b c) where
  pub module_apart : (s : ℕ) → Apart lo hi (record_at s) (record_at s + record_size) → module_at c s ≡ module_at b s
  unfolding module_at
  module_apart s n =
      rw (
        w.outside (record_at s) (n (record_at s) (omega arith) (omega arith)),
        w.outside (kind_at s) (n (kind_at s) (omega arith) (omega arith)),
        tab_ext places (λ p. cell_at c (place_at s p)) (λ p. cell_at b (place_at s p)) (λ p l. cell_outside w (place_at s p) (λ o x y. n o (omega arith) (omega arith))),
      )

  wrote_apart : (e o : ℕ) → Apart lo hi (old_at e) (old_at e + entry_size) → wrote_at c e o ≡ wrote_at b e o
  unfolding wrote_at
  wrote_apart e o n =
      rw (tab_ext most_places (old_cell c e (place_of o)) (old_cell b e (place_of o))
      (λ i l. ap (λ (x : Cell). cond (ltb (place_of o + i) places) x none) (cell_outside w (old_at e + 2 * i) (λ o x y. n o (omega arith) (omega arith)))))

  pub undo-apart : (e : ℕ) → Apart lo hi (old_at e) (old_at e + entry_size) → undo_at c e ≡ undo_at b e
  unfolding undo_at
  undo-apart e n =
      let at : (j : ℕ) → j < 4 → get_or c (offset_at e + j) 0 ≡ get_or b (offset_at e + j) 0 = λ j l. w.outside (offset_at e + j) (n (offset_at e + j) (omega arith) (omega arith)) in
      rw (
        w.outside (offset_at e) (n (offset_at e) (omega arith) (omega arith)),
        at 1 (omega arith),
        at 2 (omega arith),
        at 3 (omega arith),
        wrote_apart e (offset_of b e) n,
      )

  pub modules_by : (lo ≤ count_at → count_at < hi → ⊥) → modules_of c ≡ modules_of b
  unfolding modules_of
  modules_by n = rw (w.outside count_at n)

  pub depth_by : (lo ≤ depth_at → depth_at < hi → ⊥) → depth_of c ≡ depth_of b
  unfolding depth_of
  depth_by n = rw (w.outside depth_at n)

  -- no byte of the head but those of the log, no byte of the table, no module's address
  pub good_within : (lo ≤ count_at → count_at < hi → ⊥) → ((a : ℕ) → a < addresses → lo ≤ slot_at a → slot_at a < hi → ⊥)
      → ((s : ℕ) → s < room → lo ≤ record_at s → record_at s < hi → ⊥) → Good b → Good c
  good_within n l h good =
      good_still b c good w.long (rw (modules_by n) (omega arith)) (λ s k. w.outside (record_at s) (h s k)) (λ a k. w.outside (slot_at a) (l a k))

  -- no byte of a record
  pub modules_still : (lo ≤ count_at → count_at < hi → ⊥) → Apart lo hi (record_at 0) (record_at room) → (state_of c).modules ≡ (state_of b).modules
  unfolding state_of
  modules_still n l =
      rw (modules_by n) (tab_ext (modules_of b) (module_at c) (module_at b) (λ s h. module_apart s (λ o x y. l o (omega arith) (omega (arith, modules_few b)))))

-- one record changed
pub record-changed : {b c : List ℕ} (s : ℕ) (m : Module) → Within (record_at s) (record_at s + record_size) b c → (s < modules_of b → module_at c s ≡ m)
    → (state_of c).modules ≡ set (state_of b).modules s m
unfolding state_of
record-changed {b} {c} s m w h =
    rw (modules_by w (λ p q. omega arith))
    (tab-set (modules_of b) (module_at b) (module_at c) s m nobody h (λ j l d. module_apart w j (λ o p q x y. omega arith)))

-- ---- the count kept and the ring's next entry
module _ (b : List ℕ) (k n : ℕ) (whole : size ≤ length b) where
  within_steer : Within kept_at (next_at + 1) b (set (set b kept_at k) next_at n)
  within_steer = within-then (within_wider (omega arith) (omega arith) (within-set b kept_at k)) (within_wider (omega arith) (omega arith) (within-set (set b kept_at k) next_at n))

  kept-stored : kept_of (set (set b kept_at k) next_at n) ≡ k
  unfolding kept_of
  kept-stored = rw (get_or-set_other (set b kept_at k) next_at kept_at n 0 (omega arith), get_or-set_same b kept_at k 0 (omega arith))

  next_stored : next_of (set (set b kept_at k) next_at n) ≡ n % ring
  unfolding next_of
  next_stored = rw (get_or-set_same (set b kept_at k) next_at n 0 (rw length-set (omega arith)))

  pub steer_depth : depth_of (set (set b kept_at k) next_at n) ≡ depth_of b
  steer_depth = depth_by within_steer (λ p q. omega arith)

  pub steer_good : Good b → Good (set (set b kept_at k) next_at n)
  steer_good = good_within within_steer (λ p q. omega arith) (λ a l p q. omega arith) (λ s l p q. omega arith)

  -- the whole state
  pub steer_state : (ms : List Module) (next : ℕ) → (state_of b).modules ≡ ms → n % ring ≡ next
      → state_of (set (set b kept_at k) next_at n) ≡ record { modules = ms; log = entries (tab ring (undo_at b)) next k }
  unfolding state_of
  steer_state ms next p q =
      state_is (set (set b kept_at k) next_at n) ms _ (modules_still within_steer (λ p q. omega arith) (λ o p q x y. omega arith) ∙ p)
      (rw (kept-stored, next_stored, q, tab_ext ring (undo_at (set (set b kept_at k) next_at n)) (undo_at b) (λ e l. undo-apart within_steer e (λ o p q x y. omega arith))))

-- a step counted
one_more_lem : (b : List ℕ) → kept_of b ≤ depth_of b → one_more b ≡ set b kept_at (min (depth_of b) (suc (kept_of b)))
unfolding kept_of
one_more_lem b h = go (ltb (get_or b kept_at 0) (depth_of b)) refl
  where
    go : (c : Bool) → ltb (get_or b kept_at 0) (depth_of b) ≡ c → cond c (set b kept_at (suc (get_or b kept_at 0))) b ≡ set b kept_at (min (depth_of b) (suc (get_or b kept_at 0)))
    go true e =
        let l = ltb-true (get_or b kept_at 0) (depth_of b) e in let q : min (depth_of b) (suc (get_or b kept_at 0)) ≡ suc (get_or b kept_at 0) = omega arith in rw q
    go false e =
        let l = ltb-false (get_or b kept_at 0) (depth_of b) e in
        let q : min (depth_of b) (suc (get_or b kept_at 0)) ≡ get_or b kept_at 0 = omega arith in
        rw q (sym (set-get_or b kept_at 0))

-- The bytes d hold the log that the bytes b hold, as deep, with u in the next entry.
pub record Logs (b d : List ℕ) (u : Undo) : Type 0 where
  pub kept_is : get_or d kept_at 0 ≡ get_or b kept_at 0
  pub next_is : get_or d next_at 0 ≡ get_or b next_at 0
  pub depth_is : depth_of d ≡ depth_of b
  pub latest_is : undo_at d (next_of b) ≡ u
  pub others_are : (e : ℕ) → e < ring → e ≢ next_of b → undo_at d e ≡ undo_at b e

-- so they do after a change of bytes of no log
pub logs_still : {lo hi : ℕ} {b c d : List ℕ} {u : Undo} → Within lo hi c d → (lo ≤ depth_at → kept_at < hi → ⊥) → hi ≤ ring_at → Logs b c u → Logs b d u
logs_still w n l h =
    record {
      kept_is = w.outside kept_at (λ p q. n (omega arith) (omega arith)) ∙ h.kept_is;
      next_is = w.outside next_at (λ p q. n (omega arith) (omega arith)) ∙ h.next_is;
      depth_is = depth_by w (λ p q. n (omega arith) (omega arith)) ∙ h.depth_is;
      latest_is = undo-apart w _ (λ o p q x y. omega arith) ∙ h.latest_is;
      others_are = λ e k d. undo-apart w e (λ o p q x y. omega arith) ∙ h.others_are e k d;
    }

-- What a logged step does before it is counted: the bytes d are good, with u in the log's next entry, and hold the modules ms.
pub record Does (b d : List ℕ) (u : Undo) (ms : List Module) : Type 0 where
  pub good : Good d
  pub logs : Logs b d u
  pub modules_are : (state_of d).modules ≡ ms

-- and after it is counted
module _ (b d : List ℕ) (u : Undo) (ms : List Module) (does : Does b d u ms) (few : kept_of b ≤ depth_of b) (deep : depth_of b ≤ ring) where
  kept_same : kept_of d ≡ kept_of b
  unfolding kept_of
  kept_same = does.logs.kept_is

  counted : stepped d ≡ set (set d kept_at (min (depth_of b) (suc (kept_of b)))) next_at ((get_or b next_at 0 + 1) % 256)
  unfolding stepped
  counted = rw (one_more_lem d (rw (kept_same, does.logs.depth_is) few), kept_same, does.logs.depth_is, does.logs.next_is)

  pub stepped_good : Good (stepped d)
  stepped_good = rw counted (steer_good d _ _ does.good.whole does.good)

  pub stepped_depth : depth_of (stepped d) ≡ depth_of b
  stepped_depth = rw counted (steer_depth d _ _ does.good.whole ∙ does.logs.depth_is)

  pub stepped_state : state_of (stepped d) ≡ record { modules = ms; log = take (depth_of b) (u ∷ (state_of b).log) }
  unfolding state_of
  stepped_state =
      rw (
        counted,
        steer_state d (min (depth_of b) (suc (kept_of b))) ((get_or b next_at 0 + 1) % 256) does.good.whole ms (following (next_of b)) does.modules_are (following_is b),
        tab-set ring (undo_at b) (undo_at d) (next_of b) u same (λ m. does.logs.latest_is) does.logs.others_are,
      )
      (ap {B = State} (λ us. record { modules = ms; log = us })
      (push (depth_of b) (kept_of b) (next_of b) (tab ring (undo_at b)) u deep (next_small b) (length-tab ring (undo_at b))))
