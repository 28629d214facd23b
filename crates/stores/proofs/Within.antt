-- Places that lie in a record: what a guard shows, and what is done behind it.
--     Within, within     the facts behind the guard
--     lies_true          the guard of such places
--     saved_in_lem, noted_in_lem, stored_in_lem    behind it
-- Assumes nothing.
use Rattle.std.proofs.Common.{◌≡◌, ℕ, ◌+◌, ◌<◌, ◌≤◌, Bool, true, ◌&&◌, ltb, leb, List, length, sym, ◌∙◌, arith, ltb-true, le-ltb, lt-ltb, le-leb, leb-true}
use Rattle.laws.proofs.Testing.{and_both}
use Rattle.places.specs.Places.{places}
use Rattle.shape.specs.Limits.{room}
use Rattle.shape.specs.Layout.{size}
use Rattle.stores.specs.Stores.{stored, stored_in}
use Rattle.stores.specs.Log.{lies_in, noted, noted_in, saved, saved_in}

pub record Within (bytes s start n : ℕ) : Type 0 where
  pub long : size ≤ bytes
  pub listed : s < room
  pub ends : start + n ≤ places

pub within : (bytes s start n : ℕ) {lies : Bool} → lies ≡ lies_in bytes s start n → lies ≡ true → Within bytes s start n
within bytes s start n e h =
    let g = and_both (leb size bytes) _ (sym e ∙ h) in
    let k = and_both (ltb s room) (leb (start + n) places) g.1 in
    record { long = leb-true size bytes g.0; listed = ltb-true s room k.0; ends = leb-true (start + n) places k.1 }

pub lies_true : (bytes s start n : ℕ) → size ≤ bytes → s < room → start + n ≤ places → lies_in bytes s start n ≡ true
lies_true bytes s start n l m e = rw (le-leb size bytes l, lt-ltb s room m, le-leb (start + n) places e)

pub noted_in_lem : (b : List ℕ) (offset : ℕ) → size ≤ length b → noted_in b offset ≡ noted b offset
unfolding noted_in
noted_in_lem b offset l = rw (le-ltb (length b) size l)

pub saved_in_lem : (b : List ℕ) (s start : ℕ) → size ≤ length b → s < room → start < places → saved_in b s start ≡ saved b s start
unfolding saved_in
saved_in_lem b s start l m e = rw (lies_true (length b) s start 1 l m (omega arith))

pub stored_in_lem : (b : List ℕ) (o : ℕ) (row : List ℕ) → o + 8 ≤ length b → stored_in b o row ≡ stored b o row 8
unfolding stored_in
stored_in_lem b o row l = rw (le-leb (o + 8) (length b) l)
