-- The picture at one address, frame by frame: frames elsewhere change nothing there; the type frame lists the module; each later frame at the address is
-- accepted and its run is heard. Assumes nothing.
use Prim.Native.Nat.{ℕ, ◌≤◌, ◌<◌}
use mathlib.Core.Path.{◌≡◌, refl, ◌∙◌}
use mathlib.Core.Bool.{Bool, true, false, cond}
use mathlib.Core.List.{List, [], ◌∷◌, ◌++◌, map}
use mathlib.Core.Option.{none, some}
use lib.Dec.{eqb}
use lib.ListN.{length}
use borrow.Author.Tests.{eqb-false, eq-eqb, lt-ltb}
use Rattle.kinds.specs.Types.{vmb8ir}
use Rattle.places.specs.Runs.{Run, said, no_run, names, enters}
use Rattle.shape.specs.Layout.{size}
use Rattle.history.specs.Standing.{most_listed, deepest, Frame, address, meaning, typed, standing_type, Known, unknown, after, gave, latest, listed, Judgement, refused, accepted, exchanged, judged, judgement, outcome_of, hear, stands, standing, answered}
use Rattle.history.specs.Demand3.{run_bytes, Tells}
use Rattle.history.proofs.Demand3.{demand_3}
use Rattle.lessons.specs.Hearing.{frames_at}
use Rattle.lessons.specs.Lesson.{AllAccepted}
use Rattle.lessons.proofs.Agree.{hears}

-- a frame at the address that a module of our type hears as a run
pub record Hears (a : ℕ) (f : Frame) (r : Run) : Type 0 where
  pub at : address f ≡ a
  pub means : meaning (some vmb8ir) f ≡ names r

abbrev pub AllHear : ℕ → List Frame → List Run → Type 0
AllHear a [] [] = Unit {0}
AllHear a [] (r ∷ rs) = ⊥
AllHear a (f ∷ fs) [] = ⊥
AllHear a (f ∷ fs) (r ∷ rs) = Hears a f r × AllHear a fs rs

-- what is known after an entry with a run, and further runs, the latest first
unfoldable pub heard_by : Run → List Run → ℕ → Known
heard_by first [] p = after (said first p) unknown
heard_by first (r ∷ rs) p = hears r (heard_by first rs) p

-- the frames S list a module of our type at the address, and this is known of it
pub record Shows (S : List Frame) (a : ℕ) (pic : ℕ → Known) : Type 0 where
  pub kind : standing_type S a ≡ some vmb8ir
  pub known : (p : ℕ) → latest S a p ≡ pic p

-- every frame at the address is accepted as it is heard
unfoldable pub AllStand : ℕ → ℕ → List Frame → Type 0
AllStand d a [] = Unit {0}
AllStand d a (f ∷ fs) = (address f ≡ a → judgement (standing d (map hear fs)) f ≡ accepted) × AllStand d a fs

-- ---- one frame more
module _ (d a : ℕ) (f : Frame) (fs : List Frame) where
  stood : judgement (standing d (map hear fs)) f ≡ accepted → standing d (map hear (f ∷ fs)) ≡ f ∷ standing d (map hear fs)
  unfolding standing stands
  stood j = rw j

  -- elsewhere
  elsewhere : (j : Judgement) → eqb (address f) a ≡ false → (pic : ℕ → Known) → Shows (standing d (map hear fs)) a pic → Shows (stands j f (standing d (map hear fs))) a pic
  unfolding stands standing_type typed latest gave
  elsewhere (refused n) e pic s = s
  elsewhere accepted e pic s = record { kind = rw e s.kind; known = λ p. rw e (s.known p) }
  elsewhere exchanged e pic s = record { kind = rw e s.kind; known = λ p. rw e (s.known p) }

  pub other : eqb (address f) a ≡ false → (pic : ℕ → Known) → Shows (standing d (map hear fs)) a pic → Shows (standing d (map hear (f ∷ fs))) a pic
  unfolding standing
  other e pic s = elsewhere (judgement (standing d (map hear fs)) f) e pic s

  no_type : (j : Judgement) → eqb (address f) a ≡ false → standing_type (standing d (map hear fs)) a ≡ none → standing_type (stands j f (standing d (map hear fs))) a ≡ none
  unfolding stands standing_type typed
  no_type (refused n) e t = t
  no_type accepted e t = rw e t
  no_type exchanged e t = rw e t

  still_none : eqb (address f) a ≡ false → standing_type (standing d (map hear fs)) a ≡ none → standing_type (standing d (map hear (f ∷ fs))) a ≡ none
  unfolding standing
  still_none e t = no_type (judgement (standing d (map hear fs)) f) e t

  -- at the address
  module _ (q : address f ≡ a) where
    -- a request, before there is a module
    asked-only : standing_type (standing d (map hear fs)) a ≡ none → meaning none f ≡ names no_run → judgement (standing d (map hear fs)) f ≡ accepted
    unfolding judgement judged
    asked-only t m = rw (q, t, m)

    asked-none : standing_type (standing d (map hear fs)) a ≡ none → meaning none f ≡ names no_run → standing_type (standing d (map hear (f ∷ fs))) a ≡ none
    unfolding standing_type typed
    asked-none t m = rw (stood (asked-only t m), eq-eqb (address f) a q, q, t, m)

    -- the type frame
    module _ (r : Run) (t : standing_type (standing d (map hear fs)) a ≡ none) (m : meaning none f ≡ enters vmb8ir r) (room : listed (standing d (map hear fs)) < most_listed) where
      pub enters-stands : judgement (standing d (map hear fs)) f ≡ accepted
      unfolding judgement judged
      enters-stands = rw (q, t, m, lt-ltb (listed (standing d (map hear fs))) most_listed room)

      pub enters_shows : Shows (standing d (map hear (f ∷ fs))) a (heard_by r [])
      unfolding standing_type typed latest gave heard_by
      enters_shows =
          record {
            kind = rw (stood enters-stands, eq-eqb (address f) a q, q, t, m);
            known = λ p. rw (stood enters-stands, eq-eqb (address f) a q, q, t, m);
          }

    -- a frame of the listed module
    module _ (pic : ℕ → Known) (s : Shows (standing d (map hear fs)) a pic) (r : Run) (m : meaning (some vmb8ir) f ≡ names r) where
      pub named-stands : judgement (standing d (map hear fs)) f ≡ accepted
      unfolding judgement judged
      named-stands = rw (q, s.kind, m)

      pub named_shows : Shows (standing d (map hear (f ∷ fs))) a (hears r pic)
      unfolding standing_type typed latest gave
      named_shows =
          record {
            kind = rw (stood named-stands, eq-eqb (address f) a q, q, s.kind, m);
            known = λ p. rw (stood named-stands, eq-eqb (address f) a q, q, s.kind, m, s.known p);
          }

-- ---- before the type frame: nothing at the address but requests
abbrev pub AllAsk : ℕ → List Frame → Type 0
AllAsk a [] = Unit {0}
AllAsk a (f ∷ fs) = ((address f ≡ a) × (meaning none f ≡ names no_run)) × AllAsk a fs

pub record Quiet (d a : ℕ) (fs : List Frame) : Type 0 where
  pub untyped : standing_type (standing d (map hear fs)) a ≡ none
  pub stand : AllStand d a fs

pub quiet : (d a : ℕ) (fs : List Frame) → AllAsk a (frames_at a fs) → Quiet d a fs
unfolding frames_at standing standing_type AllStand
quiet d a [] h = record { untyped = refl; stand = tt }
quiet d a (f ∷ fs) h = go (eqb (address f) a) refl h (quiet d a fs)
  where
    go : (b : Bool) → eqb (address f) a ≡ b → AllAsk a (cond b (f ∷ frames_at a fs) (frames_at a fs)) → (AllAsk a (frames_at a fs) → Quiet d a fs) → Quiet d a (f ∷ fs)
    go true e h ih =
        let k = ih h.1 in
        record {
          untyped = asked-none d a f fs h.0.0 k.untyped h.0.1;
          stand = (λ q. asked-only d a f fs h.0.0 k.untyped h.0.1, k.stand);
        }
    go false e h ih =
        let k = ih h in
        record { untyped = still_none d a f fs e k.untyped; stand = (λ q. absurd (eqb-false (address f) a e q), k.stand) }

-- ---- and all that is heard since
pub record Heard (d a : ℕ) (fs : List Frame) (pic : ℕ → Known) : Type 0 where
  pub shows : Shows (standing d (map hear fs)) a pic
  pub stand : AllStand d a fs

pub listing : (d a : ℕ) (before : List Frame) (f : Frame) (r : Run) → Quiet d a before → address f ≡ a → meaning none f ≡ enters vmb8ir r
    → listed (standing d (map hear before)) < most_listed → Heard d a (f ∷ before) (heard_by r [])
unfolding AllStand
listing d a before f r k q m room =
    record {
      shows = enters_shows d a f before q r k.untyped m room;
      stand = (λ z. enters-stands d a f before q r k.untyped m room, k.stand);
    }

pub follows : (d a : ℕ) (first : Run) (start since : List Frame) (rs : List Run) → Heard d a start (heard_by first []) → AllHear a (frames_at a since) rs
    → Heard d a (since ++ start) (heard_by first rs)
unfolding frames_at heard_by AllStand
follows d a first start [] [] k h = k
follows d a first start [] (r ∷ rs) k h = absurd h
follows d a first start (f ∷ fs) rs k h = go (eqb (address f) a) refl rs h (λ qs. follows d a first start fs qs k)
  where
    go : (b : Bool) → eqb (address f) a ≡ b → (rs : List Run) → AllHear a (cond b (f ∷ frames_at a fs) (frames_at a fs)) rs
        → ((qs : List Run) → AllHear a (frames_at a fs) qs → Heard d a (fs ++ start) (heard_by first qs)) → Heard d a (f ∷ (fs ++ start)) (heard_by first rs)
    go true e [] h ih = absurd h
    go true e (r ∷ rs) h ih =
        let i = ih rs h.1 in
        record {
          shows = named_shows d a f (fs ++ start) h.0.at (heard_by first rs) i.shows r h.0.means;
          stand = (λ q. named-stands d a f (fs ++ start) h.0.at (heard_by first rs) i.shows r h.0.means, i.stand);
        }
    go false e rs h ih =
        let i = ih rs h in
        record { shows = other d a f (fs ++ start) e (heard_by first rs) i.shows; stand = (λ q. absurd (eqb-false (address f) a e q), i.stand) }

-- ---- the picture's bytes
pub all_accepted : (picture : List ℕ) → size ≤ length picture → (d : ℕ) → d ≤ deepest → (a : ℕ) (fs : List Frame) → AllStand d a fs → AllAccepted picture d a fs
unfolding AllStand AllAccepted answered outcome_of
all_accepted picture enough d deep a [] h = tt
all_accepted picture enough d deep a (f ∷ fs) h =
    (λ q. (demand_3 picture enough d deep (map hear fs)).next (hear f) ∙ rw (h.0 q), all_accepted picture enough d deep a fs h.1)

pub told_at : (picture : List ℕ) → size ≤ length picture → (d : ℕ) → d ≤ deepest → (a : ℕ) (fs : List Frame) (pic : ℕ → Known) → Shows (standing d (map hear fs)) a pic
    → Tells (run_bytes picture d (map hear fs)) a (some vmb8ir) (latest (standing d (map hear fs)) a)
told_at picture enough d deep a fs pic s q out = (demand_3 picture enough d deep (map hear fs)).each a q out ∙ rw s.kind
