-- The statements of specs/Depth.antt. Assumes nothing.
use Rattle.std.specs.Prelude.{Err}
use Prim.Native.Nat.{ℕ, suc, pred, min, ◌<◌, ◌≤◌}
use native.Mathlib.Omega.{arith}
use mathlib.Core.Path.{◌≡◌, refl, sym, ap, ◌∙◌}
use mathlib.Core.List.{List, [], ◌∷◌, ◌++◌}
use lib.ListN.{length}
use borrow.Author.Tests.{lt-ltb, le-ltb}
use Rattle.laws.specs.Refusals.{nothing_kept}
use Rattle.shape.specs.Limits.{most_depth}
use Rattle.shape.specs.Layout.{size}
use Rattle.steering.specs.Fresh.{freshening_with, freshening}
use Rattle.history.specs.Standing.{Frame, Judgement, refused, accepted, exchanged, judgement, outcome_of, Event, hear, back, stands, struck, counted, standing, kept, granted, answered}
use Rattle.history.specs.Depth.{DepthsNamed, KeptToDepth, StillStands, NoneAtZero}
use Rattle.history.proofs.Demand3.{demand_3}
use Rattle.history.proofs.Effects.{it_stands, answer_is}

pub depths_named : DepthsNamed
unfolding freshening_with freshening
depths_named b whole =
    record {
      taken = λ d l. rw (le-ltb (length b) size whole, le-ltb most_depth d l);
      refused = λ d l. rw (le-ltb (length b) size whole, lt-ltb most_depth d l);
      none_named = refl;
    }

counted_in : (d : ℕ) (j : Judgement) (k : ℕ) → k ≤ d → counted d j k ≤ d
unfolding counted
counted_in d (refused n) k l = l
counted_in d accepted k l = omega arith
counted_in d exchanged k l = omega arith

fewer_in : (d k : ℕ) → k ≤ d → pred k ≤ d
fewer_in d k l = omega arith

kept_in_depth : (d : ℕ) (h : List Event) → kept d h ≤ d
unfolding kept
kept_in_depth d [] = omega arith
kept_in_depth d (hear f ∷ h) = counted_in d (judgement (standing d h) f) (kept d h) (kept_in_depth d h)
kept_in_depth d (back ∷ h) = fewer_in d (kept d h) (kept_in_depth d h)

accepted_adds : (d : ℕ) (h : List Event) (f : Frame) → judgement (standing d h) f ≡ accepted → kept d (hear f ∷ h) ≡ min d (suc (kept d h))
unfolding kept counted
accepted_adds d h f e = rw e

pub kept_to_depth : KeptToDepth
kept_to_depth d h =
    record {
      within = kept_in_depth d h;
      adds = λ f e l. accepted_adds d h f e ∙ below d (kept d h) l;
      full = λ f e q. accepted_adds d h f e ∙ at_most d (kept d h) q;
    }
  where
    below : (d k : ℕ) → k < d → min d (suc k) ≡ suc k
    below d k l = omega arith

    at_most : (d k : ℕ) → k ≡ d → min d (suc k) ≡ d
    at_most d k q = omega arith

-- ---- depth 0
none_kept : (h : List Event) → kept 0 h ≡ 0
none_kept h = omega (arith, kept_in_depth 0 h)

nothing_struck : (h : List Event) → standing 0 (back ∷ h) ≡ standing 0 h
unfolding standing struck
nothing_struck h = rw (none_kept h)

none-answered : (h : List Event) → outcome_of (answered 0 h back) ≡ Err nothing_kept
unfolding answered granted outcome_of
none-answered h = rw (none_kept h)

-- it stands after one frame more
one_more_lem : (j : Judgement) (g : Frame) {S : List Frame} {f : Frame} {before : List Frame} → StillStands S f before → StillStands (stands j g S) f before
unfolding stands
one_more_lem (refused n) g s = s
one_more_lem accepted g s = record { since = g ∷ s.since; are = ap (λ (T : List Frame). g ∷ T) s.are }
one_more_lem exchanged g s = record { since = g ∷ s.since; are = ap (λ (T : List Frame). g ∷ T) s.are }

still_stands : (h : List Event) (f : Frame) → standing 0 (hear f ∷ h) ≡ f ∷ standing 0 h → (later : List Event)
    → StillStands (standing 0 (later ++ (hear f ∷ h))) f (standing 0 h)
unfolding standing
still_stands h f e [] = record { since = []; are = e }
still_stands h f e (back ∷ later) = rw (nothing_struck (later ++ (hear f ∷ h))) (still_stands h f e later)
still_stands h f e (hear g ∷ later) = one_more_lem (judgement (standing 0 (later ++ (hear f ∷ h))) g) g (still_stands h f e later)

pub none_at_zero : NoneAtZero
none_at_zero b whole h =
    record {
      none_granted = (demand_3 b whole 0 (omega arith) h).next back ∙ none-answered h;
      never_struck = λ f e. still_stands h f (it_stands b whole 0 (omega arith) h f (sym (answer_is b whole 0 (omega arith) h f) ∙ e));
    }
