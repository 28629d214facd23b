-- The statements of specs/Effects.antt. Assumes nothing.
use Rattle.std.specs.Prelude.{Ok}
use Prim.Native.Nat.{ℕ, suc, pred, min, ◌<◌, ◌≤◌}
use native.Mathlib.Omega.{arith}
use mathlib.Core.Path.{◌≡◌, refl, sym, ap, ◌∙◌, subst}
use mathlib.Core.Bool.{false, cond}
use mathlib.Core.List.{List, ◌∷◌}
use mathlib.Core.Option.{Option, none, some}
use lib.Dec.{eqb, ltb}
use lib.ListN.{length}
use borrow.Author.Tests.{ne_eqb, lt-ltb, le-ltb}
use mathlib.Core.Logic.{◌≢◌}
use Rattle.laws.specs.Refusals.{no_room}
use Rattle.frame.specs.declared.messages.Command.{Command}
use Rattle.shape.specs.Layout.{size}
use Rattle.places.specs.Runs.{Run, Meaning, refuses, names, enters, meaning_of, meant, read_as}
use Rattle.shape.specs.Limits.{room}
use Rattle.history.specs.Standing.{handed, sense, Frame, address, meaning, Known, typed, standing_type, gave, latest, more, listed, Judgement, refused, accepted, exchanged, judged, judgement, outcome_of, Event, hear, back, deepest, stands, but_latest, struck, counted, standing, kept, answered}
use Rattle.history.specs.Demand3.{doing, run_bytes, Tells, Answers}
use Rattle.history.specs.Effects.{Reads, HearsCommand, HearsEntry, HearsExchange, Alike, Own, Effect, Effects, SameAnswers, BackOver, Sixteenth, RoomAgain, RoomUsedAgain}
use Rattle.history.proofs.Shows.{other_type, other_latest, here_type, here_latest}
use Rattle.history.proofs.Demand3.{demand_3}

-- two pictures that tell the same of an address answer alike
alike : (b c : List ℕ) (a : ℕ) (t : Option ℕ) (known : ℕ → Known) → Tells b a t known → Tells c a t known → Alike b c a
alike b c a t known x y q out = x q out ∙ sym (y q out)

-- what is told may be put otherwise
retold : (b : List ℕ) (a : ℕ) {t u : Option ℕ} {known other : ℕ → Known} → t ≡ u → ((p : ℕ) → known p ≡ other p) → Tells b a t known → Tells b a u other
retold b a {t} {u} {known} {other} e q x = subst (λ (s : Option ℕ). Tells b a s other) e (subst (λ (k : ℕ → Known). Tells b a t k) (λ i p. q p i) x)

-- an accepted frame stands
done-stands : (j : Judgement) (f : Frame) (S : List Frame) → outcome_of j ≡ Ok tt → stands j f S ≡ f ∷ S
unfolding outcome_of stands
done-stands (refused n) f S e = absurd (let z : ◌≡◌ {A = ℕ} 0 1 = cc in omega arith)
done-stands accepted f S e = refl
done-stands exchanged f S e = refl

module _ (b : List ℕ) (whole : size ≤ length b) (d : ℕ) (allowed : d ≤ deepest) (h : List Event) (f : Frame) where
  abbrev S : List Frame
  S = standing d h

  before_it : Answers (run_bytes b d h) d h
  before_it = demand_3 b whole d allowed h

  after_it : Answers (run_bytes b d (hear f ∷ h)) d (hear f ∷ h)
  after_it = demand_3 b whole d allowed (hear f ∷ h)

  bytes_after : run_bytes b d (hear f ∷ h) ≡ (doing (hear f) (run_bytes b d h)).buffer
  unfolding run_bytes
  bytes_after = refl

  pub it_stands : outcome_of (judgement S f) ≡ Ok tt → standing d (hear f ∷ h) ≡ f ∷ S
  unfolding standing
  it_stands e = done-stands (judgement S f) f S e

  pub answer_is : (doing (hear f) (run_bytes b d h)).outcome ≡ outcome_of (judgement S f)
  unfolding answered
  answer_is = before_it.next (hear f)

  told-after : outcome_of (judgement S f) ≡ Ok tt → (a : ℕ) → Tells (doing (hear f) (run_bytes b d h)).buffer a (standing_type (f ∷ S) a) (latest (f ∷ S) a)
  told-after e a = rw (← (it_stands e), ← bytes_after) (after_it.each a)

  own-by : outcome_of (judgement S f) ≡ Ok tt → (m : Meaning) → meaning (standing_type S (address f)) f ≡ m
      → Own (doing (hear f) (run_bytes b d h)).buffer (address f) (standing_type S (address f)) (latest S (address f)) m
  unfolding typed gave
  own-by e (refuses n) q = retold _ (address f) (here_type f S (refuses n) q) (λ p. here_latest f S (refuses n) p q) (told-after e (address f))
  own-by e (names r) q = retold _ (address f) (here_type f S (names r) q) (λ p. here_latest f S (names r) p q) (told-after e (address f))
  own-by e (enters k r) q = retold _ (address f) (here_type f S (enters k r) q) (λ p. here_latest f S (enters k r) p q) (told-after e (address f))

  effect : outcome_of (judgement S f) ≡ Ok tt → Effect (run_bytes b d h) (doing (hear f) (run_bytes b d h)).buffer S f
  effect e =
      record {
        elsewhere =
            λ a other.
            let n : eqb (address f) a ≡ false = ne_eqb (address f) a (λ q. other (sym q)) in
            alike (run_bytes b d h) _ a (standing_type S a) (latest S a) (before_it.each a) (retold _ a (other_type f S a n) (λ p. other_latest f S a p n) (told-after e a));
        own = own-by e (meaning (standing_type S (address f)) f) refl;
      }

  -- ---- a step back over it
  kept_some : 0 < d → judgement S f ≡ accepted → struck (kept d (hear f ∷ h)) (f ∷ S) ≡ S
  unfolding kept counted struck but_latest
  kept_some deep e = rw e (go (kept d h))
    where
      go : (k : ℕ) → struck (min d (suc k)) (f ∷ S) ≡ S
      go k = let q : min d (suc k) ≡ suc (min (pred d) k) = omega arith in rw q

  done_it : judgement S f ≡ accepted → outcome_of (judgement S f) ≡ Ok tt
  unfolding outcome_of
  done_it e = rw e

  stands_again : 0 < d → judgement S f ≡ accepted → standing d (back ∷ hear f ∷ h) ≡ S
  unfolding standing
  stands_again deep e = rw (done-stands (judgement S f) f S (done_it e)) (kept_some deep e)

  back_answers : 0 < d → judgement S f ≡ accepted → SameAnswers (run_bytes b d h) (run_bytes b d (back ∷ hear f ∷ h))
  unfolding answered
  back_answers deep e =
      let c = demand_3 b whole d allowed (back ∷ hear f ∷ h) in
      record {
        addresses_listed = λ out. before_it.addresses_listed out ∙ sym (rw (stands_again deep e) at (c.addresses_listed out));
        each = λ a. alike (run_bytes b d h) (run_bytes b d (back ∷ hear f ∷ h)) a (standing_type S a) (latest S a) (before_it.each a) (rw (stands_again deep e) at (c.each a));
        next = λ g. before_it.next (hear g) ∙ sym (rw (stands_again deep e) at (c.next (hear g)));
      }

pub effects : Effects
effects b whole d allowed h f e = effect b whole d allowed h f (sym (answer_is b whole d allowed h f) ∙ e)

pub back_over : BackOver
back_over = back_answers

-- ---- by what the reader gives
reads_means : (t : Option ℕ) (f : Frame) (m : Command) → Reads (handed t) f m → meaning t f ≡ sense t (meaning_of (handed t) m)
unfolding meaning read_as meant
reads_means t f m e = rw e

module _ (b : List ℕ) (whole : size ≤ length b) (d : ℕ) (allowed : d ≤ deepest) (h : List Event) (f : Frame) (t : Option ℕ) (m : Meaning) (t-is : standing_type (standing d h) (address f) ≡ t) (m-is : meaning t f ≡ m) where
  judged_as : judgement (standing d h) f ≡ judged t (listed (standing d h)) m
  unfolding judgement
  judged_as = rw (t-is, m-is)

  heard_own : outcome_of (judged t (listed (standing d h)) m) ≡ Ok tt
      → ((doing (hear f) (run_bytes b d h)).outcome ≡ Ok tt) × Own (doing (hear f) (run_bytes b d h)).buffer (address f) t (latest (standing d h) (address f)) m
  heard_own e =
      let done : outcome_of (judgement (standing d h) f) ≡ (Ok tt) = ap outcome_of judged_as ∙ e in
      (answer_is b whole d allowed h f ∙ done, rw t-is at (own-by b whole d allowed h f done m (ap (λ (x : Option ℕ). meaning x f) t-is ∙ m-is)))

pub hears_command : HearsCommand
unfolding judged outcome_of
hears_command b whole d allowed h f kind m r t e named =
    let o = heard_own b whole d allowed h f (some kind) (names r) t (reads_means (some kind) f m e ∙ named) refl in
    record { answer = o.0; tells = o.1 }

pub hears_entry : HearsEntry
unfolding judged outcome_of sense
hears_entry b whole d allowed h f m k r t e enter free =
    let o = heard_own b whole d allowed h f none (enters k r) t (reads_means none f m e ∙ ap (sense none) enter) (rw (lt-ltb (listed (standing d h)) room free)) in
    record { answer = o.0; tells = o.1 }

exchanges : (kind k : ℕ) (r : Run) → k ≢ kind → sense (some kind) (enters k r) ≡ enters k r
unfolding sense
exchanges kind k r d = rw (ne_eqb kind k (λ q. d (sym q)))

pub hears_exchange : HearsExchange
unfolding judged outcome_of kept counted
hears_exchange b whole d allowed h f kind m k r t e enter other =
    let q = reads_means (some kind) f m e ∙ ap (sense (some kind)) enter ∙ exchanges kind k r other in
    let o = heard_own b whole d allowed h f (some kind) (enters k r) t q refl in
    (record { answer = o.0; tells = o.1 }, rw (judged_as b whole d allowed h f (some kind) (enters k r) t q))

-- ---- the sixteenth and the seventeenth module
module _ (b : List ℕ) (whole : size ≤ length b) (d : ℕ) (allowed : d ≤ deepest) (h : List Event) (f g : Frame) (k l : ℕ) (r q : Run) (deep : 0 < d) (s : Sixteenth (standing d h) f g k l r q) where
  judged-new : (T : List Frame) (x : Frame) (n : ℕ) (p : Run) → standing_type T (address x) ≡ none → meaning none x ≡ enters n p
      → judgement T x ≡ cond (ltb (listed T) room) accepted (refused no_room)
  unfolding judgement judged
  judged-new T x n p e m = rw (e, m)

  f_accepted : judgement (standing d h) f ≡ accepted
  f_accepted = judged-new (standing d h) f k r s.f_new s.f_enters ∙ rw (lt-ltb (listed (standing d h)) room (omega (arith, s.fifteen)))

  g_first : judgement (standing d h) g ≡ accepted
  g_first = judged-new (standing d h) g l q s.g_new s.g_enters ∙ rw (lt-ltb (listed (standing d h)) room (omega (arith, s.fifteen)))

  more-listed : listed (f ∷ standing d h) ≡ room
  unfolding listed more
  more-listed = rw (s.f_new, s.f_enters) s.fifteen

  g_refused : judgement (f ∷ standing d h) g ≡ refused no_room
  g_refused =
      judged-new (f ∷ standing d h) g l q (other_type f (standing d h) (address g) (ne_eqb (address f) (address g) s.apart) ∙ s.g_new) s.g_enters
      ∙ rw (le-ltb (listed (f ∷ standing d h)) room (omega (arith, more-listed)))

  room_again : RoomAgain b d h f g
  unfolding outcome_of
  room_again =
      let back_is = back_answers b whole d allowed h f deep f_accepted in
      record {
        entered = answer_is b whole d allowed h f ∙ ap outcome_of f_accepted;
        full = answer_is b whole d allowed (hear f ∷ h) g ∙ ap (λ (T : List Frame). outcome_of (judgement T g)) (it_stands b whole d allowed h f (ap outcome_of f_accepted)) ∙ ap outcome_of g_refused;
        gone = back_is.each (address f);
        again = sym (back_is.next g) ∙ answer_is b whole d allowed h g ∙ ap outcome_of g_first;
      }

pub room_used_again : RoomUsedAgain
room_used_again = room_again
