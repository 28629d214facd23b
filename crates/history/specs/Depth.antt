-- The depth of the way back: which may be named, what naming none gives, and depth 0. The proofs are proofs/Depth.antt.
use Rattle.std.specs.Prelude.{ℕ, suc, ◌<◌, ◌≤◌, ◌≡◌, List, ◌∷◌, ◌++◌, length, Ok, Err}
use Rattle.laws.specs.Refusals.{nothing_kept, no_such_place}
use Rattle.shape.specs.Result.{refusing}
use Rattle.shape.specs.Layout.{size}
use Rattle.steering.specs.Fresh.{freshening_with, freshening}
use Rattle.history.specs.Standing.{Frame, accepted, judgement, Event, hear, back, deepest, standing, kept}
use Rattle.history.specs.Demand3.{doing, run_bytes}

-- a fresh picture may name its depth, 0 to 64; above it is 12, and no byte changes; naming none gives 64
pub record Named (b : List ℕ) : Type 0 where
  pub taken : (d : ℕ) → d ≤ deepest → (freshening_with b d).outcome ≡ Ok tt
  pub refused : (d : ℕ) → deepest < d → freshening_with b d ≡ refusing no_such_place b
  pub none_named : freshening b ≡ freshening_with b deepest

abbrev pub DepthsNamed : Type 0
DepthsNamed = (b : List ℕ) → size ≤ length b → Named b

-- the cap on the kept count is the depth: below it an accepted frame adds 1, and at it none
pub record Capped (d : ℕ) (h : List Event) : Type 0 where
  pub within : kept d h ≤ d
  pub adds : (f : Frame) → judgement (standing d h) f ≡ accepted → kept d h < d → kept d (hear f ∷ h) ≡ suc (kept d h)
  pub full : (f : Frame) → judgement (standing d h) f ≡ accepted → kept d h ≡ d → kept d (hear f ∷ h) ≡ d

abbrev pub KeptToDepth : Type 0
KeptToDepth = (d : ℕ) (h : List Event) → Capped d h

-- Among the frames S the frame f still stands, on those that stood before it.
pub record StillStands (S : List Frame) (f : Frame) (before : List Frame) : Type 0 where
  pub since : List Frame
  pub are : S ≡ since ++ (f ∷ before)

-- depth 0 grants no step at all: an accepted frame stands, and is never struck off, whatever comes later
pub record NoWayBack (b : List ℕ) (h : List Event) : Type 0 where
  pub none_granted : (doing back (run_bytes b 0 h)).outcome ≡ Err nothing_kept
  pub never_struck : (f : Frame) → (doing (hear f) (run_bytes b 0 h)).outcome ≡ Ok tt → (later : List Event)
      → StillStands (standing 0 (later ++ (hear f ∷ h))) f (standing 0 h)

abbrev pub NoneAtZero : Type 0
NoneAtZero = (b : List ℕ) → size ≤ length b → (h : List Event) → NoWayBack b h
