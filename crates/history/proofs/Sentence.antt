-- Demand 3's sentence, as specs/Sentence.antt states it: by induction over the standing frames, then of the bytes. Assumes nothing.
use Prim.Native.Nat.{ℕ, zero, suc, ◌<◌}
use native.Mathlib.Omega.{arith}
use mathlib.Core.Path.{◌≡◌, refl, sym, ap, ◌∙◌}
use mathlib.Core.Bool.{Bool, true, false}
use mathlib.Core.Logic.{inl, inr}
use mathlib.Core.List.{List, [], ◌∷◌}
use mathlib.Core.Option.{Option, some}
use lib.Dec.{eqb, ltb}
use lib.ListN.{drop}
use borrow.Author.Tests.{eqb-true, eqb-false, ltb-true, ltb-false}
use Rattle.places.specs.Runs.{Run, Saying, silent, asks, tells, said_from, said, Meaning, refuses, names, enters}
use Rattle.history.specs.Standing.{Frame, address, typed, standing_type, Known, unknown, told, after, gave, latest, standing}
use Rattle.history.specs.Sentence.{Stands, heard_as, Entry, saying, NotHidden, Since, Gave, Named, PlaceSaid, Entered, TypeSaid, Sentence, SentenceDecides}
use Rattle.history.proofs.Demand3.{demand_3}

-- none stands where there are none
nobody : {a n : ℕ} {f : Frame} {before : List Frame} → Stands [] a n f before → ⊥
nobody {a} {n} {f} {before} s = go n s.there
  where
    go : (n : ℕ) → drop {A = Frame} n [] ≡ f ∷ before → ⊥
    go zero e = let z : ◌≡◌ {A = ℕ} 0 1 = cc in omega arith
    go (suc n) e = let z : ◌≡◌ {A = ℕ} 0 1 = cc in omega arith

-- ---- one frame more
module _ (f : Frame) (S : List Frame) (a : ℕ) where
  -- what holds of it and of each that stood before it holds of all
  of_all : (Q : ℕ → Frame → List Frame → Type 0) → (address f ≡ a → Q 0 f S)
      → ((m : ℕ) (g : Frame) (older : List Frame) → Stands S a m g older → Q (suc m) g older)
      → (m : ℕ) (g : Frame) (older : List Frame) → Stands (f ∷ S) a m g older → Q m g older
  of_all Q first rest zero g older s =
      let e : f ≡ g = cc s.there in
      let q : S ≡ older = cc s.there in
      rw (← e, ← q) (first (rw e s.at))
  of_all Q first rest (suc m) g older s = rest m g older (record { there = s.there; at = s.at })

  -- it is no entry of the address
  abbrev NoEntry : Type 0
  NoEntry = address f ≡ a → Entry (heard_as f S) → ⊥

  one_on : {n : ℕ} {g : Frame} {older : List Frame} → Stands S a n g older → Stands (f ∷ S) a (suc n) g older
  one_on s = record { there = s.there; at = s.at }

  since_more : {n : ℕ} {g : Frame} {older : List Frame} → NoEntry → Since S a n g older → Since (f ∷ S) a (suc n) g older
  since_more {n} quiet s =
      record {
        stands = one_on s.stands;
        not_hidden =
            of_all (λ m g older. m < suc n → Entry (heard_as g older) → ⊥) (λ here l. quiet here) (λ m g older t l. s.not_hidden m g older t (omega arith));
      }

  since_less : (n : ℕ) → NotHidden (f ∷ S) a (suc n) → NotHidden S a n
  since_less n since m g older s l = since (suc m) g older (one_on s) (omega arith)

  -- what holds of it and of each that stood before it and is not hidden holds of all that are not
  of_since : (Q : Frame → List Frame → Type 0) → (address f ≡ a → Q f S)
      → ((n : ℕ) (g : Frame) (older : List Frame) → Stands S a n g older → NotHidden (f ∷ S) a (suc n) → Q g older)
      → (n : ℕ) (g : Frame) (older : List Frame) → Since (f ∷ S) a n g older → Q g older
  of_since Q first rest n g older s = of_all (λ m g older. NotHidden (f ∷ S) a m → Q g older) (λ here h. first here) rest n g older s.stands s.not_hidden

  -- nor does it name the place
  module _ (p : ℕ) (known : Known) (no_entry : NoEntry) (no_name : address f ≡ a → saying f S p ≡ silent) where
    more : PlaceSaid S a p known → PlaceSaid (f ∷ S) a p known
    more (inl s) =
        inl
        (record {
          number = suc s.number;
          frame = s.frame;
          before = s.before;
          since = since_more no_entry s.since;
          gave = s.gave;
          no_later =
              of_all (λ m g older. m < suc s.number → saying g older p ≡ silent) (λ here l. no_name here) (λ m g older t l. s.no_later m g older t (omega arith));
        })
    more (inr s) =
        inr
        (record {
          none_names =
              of_since (λ g older. saying g older p ≡ silent) no_name
              (λ n g older t h. s.none_names n g older (record { stands = t; not_hidden = since_less n h }));
          not_known = s.not_known;
        })

  module _ (here : address f ≡ a) where
    itself : Stands (f ∷ S) a 0 f S
    itself = record { there = refl; at = here }

    since-itself : Since (f ∷ S) a 0 f S
    since-itself = record { stands = itself; not_hidden = λ m g older s l. absurd (omega arith) }

    first : (p : ℕ) (known : Known) → Gave (saying f S p) known → PlaceSaid (f ∷ S) a p known
    first p known given =
        inl
        (record {
          number = 0;
          frame = f;
          before = S;
          since = since-itself;
          gave = given;
          no_later = λ m g older s l. absurd (omega arith);
        })

    -- an entry that does not name the place hides what came before it
    hidden : (p : ℕ) → Entry (heard_as f S) → saying f S p ≡ silent → PlaceSaid (f ∷ S) a p unknown
    hidden p entry quiet =
        inr
        (record {
          none_names = of_since (λ g older. saying g older p ≡ silent) (λ h. quiet) (λ n g older t h. absurd (h 0 f S itself (omega arith) entry));
          not_known = refl;
        })

    -- by what it says of the place
    by-saying : (p : ℕ) (known : Known) (s : Saying) → saying f S p ≡ s → (saying f S p ≡ silent → PlaceSaid (f ∷ S) a p known) → PlaceSaid (f ∷ S) a p (after s known)
    unfolding after
    by-saying p known silent e else = else e
    by-saying p known asks e else = first p unknown (rw e refl)
    by-saying p known (tells v) e else = first p (told v) (rw e refl)

  -- by whose it is and what it means
  place-step : (p : ℕ) (known : Known) (c : Bool) → eqb (address f) a ≡ c → (m : Meaning) → heard_as f S ≡ m → PlaceSaid S a p known → PlaceSaid (f ∷ S) a p (gave c m p known)
  unfolding gave said_from
  place-step p known false e m q s = more p known (λ h. absurd (eqb-false (address f) a e h)) (λ h. absurd (eqb-false (address f) a e h)) s
  place-step p known true e (refuses n) q s = more p known (λ h. rw q (λ x. x)) (λ h. rw q) s
  place-step p known true e (names r) q s =
      by-saying (eqb-true (address f) a e) p known (said r p) (rw q) (λ w. more p known (λ h. rw q (λ x. x)) (λ h. w) s)
  place-step p known true e (enters k r) q s =
      let here = eqb-true (address f) a e in
      by-saying here p unknown (said r p) (rw q) (hidden here p (rw q (record {})))

  type_more : (type : Option ℕ) → NoEntry → TypeSaid S a type → TypeSaid (f ∷ S) a type
  type_more type quiet (inl s) =
      inl
      (record {
        number = suc s.number;
        frame = s.frame;
        before = s.before;
        since = since_more quiet s.since;
        kind = s.kind;
        build = s.build;
        entry = s.entry;
        type_is = s.type_is;
      })
  type_more type quiet (inr s) =
      inr (record { no_entry = of_all (λ n g older. Entry (heard_as g older) → ⊥) quiet s.no_entry; no_type = s.no_type })

  type_step : (type : Option ℕ) (c : Bool) → eqb (address f) a ≡ c → (m : Meaning) → heard_as f S ≡ m → TypeSaid S a type → TypeSaid (f ∷ S) a (typed c m type)
  unfolding typed
  type_step type false e m q s = type_more type (λ h. absurd (eqb-false (address f) a e h)) s
  type_step type true e (refuses n) q s = type_more type (λ h. rw q (λ x. x)) s
  type_step type true e (names r) q s = type_more type (λ h. rw q (λ x. x)) s
  type_step type true e (enters k r) q s =
      let here = eqb-true (address f) a e in
      inl
      (record {
        number = 0;
        frame = f;
        before = S;
        since = since-itself here;
        kind = k;
        build = r;
        entry = q;
        type_is = refl;
      })

-- ---- all of them
place_said : (S : List Frame) (a p : ℕ) → PlaceSaid S a p (latest S a p)
unfolding latest
place_said [] a p = inr (record { none_names = λ n f before s. absurd (nobody s.stands); not_known = refl })
place_said (f ∷ S) a p = place-step f S a p (latest S a p) (eqb (address f) a) refl (heard_as f S) refl (place_said S a p)

type_said : (S : List Frame) (a : ℕ) → TypeSaid S a (standing_type S a)
unfolding standing_type
type_said [] a = inr (record { no_entry = λ n f before s e. nobody s; no_type = refl })
type_said (f ∷ S) a = type_step f S a (standing_type S a) (eqb (address f) a) refl (heard_as f S) refl (type_said S a)

pub sentence : Sentence
sentence b whole d allowed h a =
    record {
      type = standing_type (standing d h) a;
      known = latest (standing d h) a;
      tells = (demand_3 b whole d allowed h).each a;
      type_said = type_said (standing d h) a;
      place_said = place_said (standing d h) a;
    }

-- ---- and no other
-- frames of one number are one frame
same_frame : {S : List Frame} {a m n : ℕ} {f g : Frame} {x y : List Frame} → m ≡ n → Stands S a m f x → Stands S a n g y → (f ≡ g) × (x ≡ y)
same_frame {S} {a} {m} {n} {f} {g} {x} {y} e s t =
    let q : f ∷ x ≡ g ∷ y = sym s.there ∙ ap (λ (i : ℕ). drop i S) e ∙ t.there in
    (cc q, cc q)

-- a frame gives one thing, and one that gives is not silent
gave_one : (x : Saying) {k l : Known} → Gave x k → Gave x l → k ≡ l
gave_one silent d e = absurd d
gave_one asks d e = d ∙ sym e
gave_one (tells v) d e = d ∙ sym e

not_silent : {S : List Frame} {a p : ℕ} {k : Known} (s : Named S a p k) → saying s.frame s.before p ≡ silent → ⊥
not_silent {S} {a} {p} {k} s e = let z : Gave silent k = rw e at s.gave in z

entry_is : {m : Meaning} {k : ℕ} {r : Run} → m ≡ enters k r → Entry m
entry_is e = rw e (record {})

-- of two that decide, neither is later
module _ {S : List Frame} {a : ℕ} where
  named-one : {p : ℕ} {k l : Known} (s : Named S a p k) (t : Named S a p l) (c d : Bool) → ltb s.number t.number ≡ c → ltb t.number s.number ≡ d → k ≡ l
  named-one s t true d e q =
      absurd (not_silent s (t.no_later s.number s.frame s.before s.since.stands (ltb-true s.number t.number e)))
  named-one s t false true e q =
      absurd (not_silent t (s.no_later t.number t.frame t.before t.since.stands (ltb-true t.number s.number q)))
  named-one {p} {k} {l} s t false false e q =
      let same = same_frame (omega (arith, ltb-false s.number t.number e, ltb-false t.number s.number q)) s.since.stands t.since.stands in
      gave_one (saying t.frame t.before p) (rw (same.0, same.1) at s.gave) t.gave

  entered_one : {t u : Option ℕ} (x : Entered S a t) (y : Entered S a u) (c d : Bool) → ltb x.number y.number ≡ c → ltb y.number x.number ≡ d → t ≡ u
  entered_one x y true d e q =
      absurd (y.since.not_hidden x.number x.frame x.before x.since.stands (ltb-true x.number y.number e) (entry_is x.entry))
  entered_one x y false true e q =
      absurd (x.since.not_hidden y.number y.frame y.before y.since.stands (ltb-true y.number x.number q) (entry_is y.entry))
  entered_one {t} {u} x y false false e q =
      let same = same_frame (omega (arith, ltb-false x.number y.number e, ltb-false y.number x.number q)) x.since.stands y.since.stands in
      let both : enters x.kind x.build ≡ enters y.kind y.build = sym (rw (same.0, same.1) at x.entry) ∙ y.entry in
      let kind : x.kind ≡ y.kind = cc both in
      x.type_is ∙ ap some kind ∙ sym y.type_is

one_known : (S : List Frame) (a p : ℕ) (k l : Known) → PlaceSaid S a p k → PlaceSaid S a p l → k ≡ l
one_known S a p k l (inl s) (inl t) = named-one s t (ltb s.number t.number) (ltb t.number s.number) refl refl
one_known S a p k l (inl s) (inr t) = absurd (not_silent s (t.none_names s.number s.frame s.before s.since))
one_known S a p k l (inr s) (inl t) = absurd (not_silent t (s.none_names t.number t.frame t.before t.since))
one_known S a p k l (inr s) (inr t) = s.not_known ∙ sym t.not_known

one_type : (S : List Frame) (a : ℕ) (t u : Option ℕ) → TypeSaid S a t → TypeSaid S a u → t ≡ u
one_type S a t u (inl x) (inl y) = entered_one x y (ltb x.number y.number) (ltb y.number x.number) refl refl
one_type S a t u (inl x) (inr y) = absurd (y.no_entry x.number x.frame x.before x.since.stands (entry_is x.entry))
one_type S a t u (inr x) (inl y) = absurd (x.no_entry y.number y.frame y.before y.since.stands (entry_is y.entry))
one_type S a t u (inr x) (inr y) = x.no_type ∙ sym y.no_type

pub sentence_decides : SentenceDecides
sentence_decides = record { one_type = one_type; one_known = one_known }
