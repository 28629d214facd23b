-- A module exchanged for one of another type: the bytes after it are those of the machine's state after it. Assumes nothing.
use Prim.Native.Nat.{ℕ, ◌+◌, ◌<◌, ◌≤◌}
use native.Mathlib.Omega.{arith}
use mathlib.Core.Path.{◌≡◌, refl, sym, ◌∙◌}
use mathlib.Core.Bool.{Bool, true, false}
use mathlib.Core.Logic.{◌≢◌}
use mathlib.Core.List.{List, []}
use lib.Dec.{eqb}
use lib.ListN.{get_or, set}
use lib.Seq.{get_or-set_same}
use borrow.Author.Tests.{eqb-true, eqb-false}
use Rattle.shape.specs.Limits.{room}
use Rattle.places.specs.Places.{places}
use Rattle.places.specs.Runs.{Run}
use Rattle.places.specs.Fitting.{end_of}
use Rattle.shape.specs.Layout.{kept_at, slot_at, record_size, record_at}
use Rattle.shape.specs.Head.{modules_of, kept_of, depth_of}
use Rattle.modules.specs.Records.{new_record, exchanged_bytes}
use Rattle.history.specs.Machine.{new}
use Rattle.history.specs.Refinement.{entries, state_of, Good}
use Rattle.history.proofs.Stores.{Within, within-set}
use Rattle.history.proofs.Parts.{modules_few, modules_by, depth_by, modules_still, record-changed, state_is, good_still, good_within}
use Rattle.history.proofs.NewRecord.{within_new, new_module, new-address}

module _ (b : List ℕ) (s a k : ℕ) (r : Run) (good : Good b) (fit : end_of r ≤ places) (there : s < modules_of b) (own : get_or b (record_at s) 0 ≡ a) where
  slot_ok : s < room
  slot_ok = omega (arith, modules_few b)

  abbrev laid : List ℕ
  laid = new_record b s a k r

  lw : Within (record_at s) (record_at s + record_size) b laid
  lw = within_new b s a k good.whole slot_ok r fit

  laid_good : Good laid
  laid_good =
      good_still b laid good lw.long (rw (modules_by lw (λ p q. omega arith)) (omega arith)) (λ j h. go j (eqb j s) refl) (λ x h. lw.outside (slot_at x) (λ p q. omega arith))
    where
      go : (j : ℕ) (c : Bool) → eqb j s ≡ c → get_or laid (record_at j) 0 ≡ get_or b (record_at j) 0
      go j true e = rw (eqb-true j s e) (new-address b s a k good.whole slot_ok r fit ∙ sym own)
      go j false e = let d : j ≢ s = eqb-false j s e in lw.outside (record_at j) (λ p q. omega arith)

  kept-none : kept_of (set laid kept_at 0) ≡ 0
  unfolding kept_of
  kept-none = get_or-set_same laid kept_at 0 0 (omega (arith, laid_good.whole))

  pub exchanged_good : Good (exchanged_bytes b s a k r)
  unfolding exchanged_bytes
  exchanged_good = good_within (within-set laid kept_at 0) (λ p q. omega arith) (λ x l p q. omega arith) (λ j l p q. omega arith) laid_good

  pub exchanged_depth : depth_of (exchanged_bytes b s a k r) ≡ depth_of b
  unfolding exchanged_bytes
  exchanged_depth = depth_by (within-set laid kept_at 0) (λ p q. omega arith) ∙ depth_by lw (λ p q. omega arith)

  pub exchanged_state : state_of (exchanged_bytes b s a k r) ≡ record { modules = set (state_of b).modules s (new a k r); log = [] }
  unfolding exchanged_bytes state_of entries
  exchanged_state =
      state_is (set laid kept_at 0) _ _
      (modules_still (within-set laid kept_at 0) (λ p q. omega arith) (λ o p q x y. omega arith)
      ∙ record-changed s (new a k r) lw (λ l. new_module b s a k good.whole slot_ok r fit))
      (rw kept-none)
