-- Demand 3 of the machine, as specs/Demand3.antt states it. The invariant `Ready log ms S`: the modules show what the standing frames tell, and undoing the log's
-- latest entry gives modules that are ready, with the rest of the log, for the standing frames but the latest. Assumes nothing.
use Prim.Native.Nat.{ℕ, zero, suc, pred, min, ◌<◌, ◌≤◌}
use native.Mathlib.Omega.{arith}
use mathlib.Core.Path.{◌≡◌, refl, sym, ap, ◌∙◌}
use mathlib.Core.Bool.{Bool, true, false, cond}
use mathlib.Core.List.{List, [], ◌∷◌, ◌++◌}
use mathlib.Core.Option.{Option, none, some}
use lib.Dec.{eqb, ltb}
use lib.ListN.{length, get_or, set, take, length-take}
use lib.Seq.{set-set, set-get_or, get_or-set_same}
use Rattle.laws.specs.Refusals.{no_room}
use Rattle.judging.specs.Reading.{reading}
use Rattle.shape.specs.Limits.{room}
use Rattle.places.specs.Places.{most_places, places}
use Rattle.places.specs.Runs.{Run, Saying, Meaning, refuses, names, enters, read_as}
use Rattle.places.specs.Fitting.{FitsAs}
use Rattle.places.proofs.Fitting.{runs_fit}
use Rattle.history.specs.Standing.{Frame, address, handed, sense, meaning, standing_type, latest, listed, Judgement, refused, accepted, judged, judgement, Event, hear, back, stands, but_latest, struck, counted, standing, kept, granted, answered}
use Rattle.history.specs.Machine.{Module, Undo, same, entered, wrote, State, Step, find, slot, olds, told_by, restored, new, nobody, undo, logged, kept_as, told_in, hears, backs, step, run}
use Rattle.history.specs.Refinement.{Found, AllFound, Sound}
use Rattle.history.specs.Demand3.{MachineAgrees}
use Rattle.history.proofs.Rows.{restore-write}
use Rattle.history.proofs.Modules.{none_some, find-slot, slot_lt, but_last-append}
use Rattle.history.proofs.Shows.{At, Shows, kind_at, shows_nobody, shows_nothing, shows_told, shows_new, shows_exchanged}

abbrev Ready : List Undo → List Module → List Frame → Type 0
Ready [] ms S = Shows ms S
Ready (u ∷ us) ms S = Shows ms S × Ready us (undo u ms) (but_latest S)

ready_shows : (us : List Undo) (ms : List Module) (S : List Frame) → Ready us ms S → Shows ms S
ready_shows [] ms S h = h
ready_shows (u ∷ us) ms S h = h.0

-- a log may forget its oldest entries
ready_take : (n : ℕ) (us : List Undo) (ms : List Module) (S : List Frame) → Ready us ms S → Ready (take n us) ms S
ready_take zero us ms S h = ready_shows us ms S h
ready_take (suc n) [] ms S h = h
ready_take (suc n) (u ∷ us) ms S h = (h.0, ready_take n us (undo u ms) (but_latest S) h.1)

-- a step that an enters of the log undoes
ready_more : (d : ℕ) (us : List Undo) (ms ms' : List Module) (f : Frame) (S : List Frame) (u : Undo) → undo u ms' ≡ ms → Shows ms' (f ∷ S) → Ready us ms S → Ready (take d (u ∷ us)) ms' (f ∷ S)
unfolding but_latest
ready_more d us ms ms' f S u e s h = ready_take d (u ∷ us) ms' (f ∷ S) (s, rw e h)

restored-told : (r : Run) (m : Module) → length r.says ≤ most_places → restored r.start (olds m.places r.start) (told_by r m) ≡ m
unfolding restored told_by
restored-told r m l = rw (restore-write m.places r.start r.says most_places l)

undo_wrote : (ms : List Module) (a : ℕ) (r : Run) (m : Module) → length r.says ≤ most_places → find ms a ≡ some m
    → undo (wrote (slot ms a) r.start (olds m.places r.start)) (set ms (slot ms a) (told_by r m)) ≡ ms
unfolding undo
undo_wrote ms a r m l x =
    rw (set-set, get_or-set_same ms (slot ms a) (told_by r m) nobody (slot_lt ms a m x), restored-told r m l)
    (ap (set ms (slot ms a)) (sym (find-slot ms a m x)) ∙ set-get_or ms (slot ms a) nobody)

-- a frame's run fits, also where an entry of the type known already names it
sense-fits : (t : Option ℕ) (m : Meaning) → FitsAs m → FitsAs (sense t m)
unfolding sense
sense-fits t (refuses n) h = h
sense-fits t (names r) h = h
sense-fits none (enters k r) h = h
sense-fits (some t) (enters k r) h = go (eqb t k)
  where
    go : (c : Bool) → FitsAs (cond c (names r) (enters k r))
    go true = h
    go false = h

meaning-fits : (t : Option ℕ) (f : Frame) → FitsAs (meaning t f)
unfolding meaning
meaning-fits t f =
    sense-fits t (read_as (handed t) (reading (handed t) f.identifier f.remote f.bytes)) (runs_fit (handed t) f.identifier f.remote f.bytes)

-- What a step has to meet: the answer, the count and the modules.
record Met (d : ℕ) (st : Step) (o : Judgement) (f : Frame) (S : List Frame) (k : ℕ) : Type 0 where
  ready : Ready st.state.log st.state.modules (stands o f S)
  count : length st.state.log ≡ counted d o k
  answers : st.answer ≡ o

met_logged : (d : ℕ) (us : List Undo) (ms ms' : List Module) (f : Frame) (S : List Frame) (u : Undo) (k : ℕ) → undo u ms' ≡ ms → Shows ms' (f ∷ S) → Ready us ms S → length us ≡ k
    → Met d (logged d ms' u us) accepted f S k
unfolding logged stands counted
met_logged d us ms ms' f S u k e s h c =
    record { ready = ready_more d us ms ms' f S u e s h; count = length-take d (u ∷ us) ∙ ap (λ (n : ℕ). min d (suc n)) c; answers = refl }

module _ (d : ℕ) (s : State) (f : Frame) (S : List Frame) (k : ℕ) (ready : Ready s.log s.modules S) (count : length s.log ≡ k) where
  shown : Shows s.modules S
  shown = ready_shows s.log s.modules S ready

  heard : (x : Option Module) (r : Meaning) → find s.modules (address f) ≡ x → At x S (address f) → meaning (standing_type S (address f)) f ≡ r → FitsAs r
      → Met d (hears d x (address f) r s) (judged (standing_type S (address f)) (listed S) r) f S k
  unfolding hears judged kept_as stands counted undo told_in
  heard x (refuses n) e h m fit = record { ready = ready; count = count; answers = refl }
  heard none (names r) e h m fit = met_logged d s.log s.modules s.modules f S same k refl (shows_nobody f S s.modules r e m shown) ready count
  heard (some w) (names r) e h m fit = go r.says refl
    where
      go : (xs : List Saying) → r.says ≡ xs → Met d (told_in d xs (slot s.modules (address f)) r w s) accepted f S k
      go [] q = met_logged d s.log s.modules s.modules f S same k refl (shows_nothing f S s.modules r w q e m shown) ready count
      go (x ∷ xs) q =
          met_logged d s.log s.modules (set s.modules (slot s.modules (address f)) (told_by r w)) f S
          (wrote (slot s.modules (address f)) r.start (olds w.places r.start)) k
          (undo_wrote s.modules (address f) r w fit.1 e) (shows_told f S s.modules r w e m shown) ready count
  heard none (enters t r) e h m fit = rw (h, ← shown.count) (go (ltb (length s.modules) room))
    where
      go : (c : Bool) → Met d (cond c (logged d (s.modules ++ (new (address f) t r ∷ [])) entered s.log) (kept_as s no_room)) (cond c accepted (refused no_room)) f S k
      go true =
          met_logged d s.log s.modules (s.modules ++ (new (address f) t r ∷ [])) f S entered k
          (but_last-append s.modules (new (address f) t r)) (shows_new f S s.modules t r e m shown) ready count
      go false = record { ready = ready; count = count; answers = refl }
  heard (some w) (enters t r) e h m fit = rw h.kind_is (record { ready = shows_exchanged f S s.modules t r w e m shown; count = refl; answers = refl })

  hear_met : Met d (step d (hear f) s) (judgement S f) f S k
  unfolding step judgement
  hear_met =
      rw (kind_at (find s.modules (address f)) S (address f) (shown.each (address f)))
      (heard (find s.modules (address f)) (meaning (standing_type S (address f)) f) refl (shown.each (address f)) refl (meaning-fits (standing_type S (address f)) f))

-- What is so after a run of events.
record Held (d : ℕ) (h : List Event) : Type 0 where
  ready : Ready (run d h).log (run d h).modules (standing d h)
  count : length (run d h).log ≡ kept d h

held_back : (ms : List Module) (log : List Undo) (S : List Frame) (k : ℕ) → Ready log ms S → length log ≡ k
    → Ready (backs ms log).state.log (backs ms log).state.modules (struck k S) × (length (backs ms log).state.log ≡ pred k) × ((backs ms log).answer ≡ granted k)
unfolding backs struck granted kept_as
held_back ms [] S k r c = rw (← c) (r, refl, refl)
held_back ms (u ∷ log) S k r c = rw (← c) (r.1, refl, refl)

fresh_shows : Shows [] []
unfolding find listed standing_type
fresh_shows = record { count = refl; each = λ a. refl }

held : (d : ℕ) (h : List Event) → Held d h
unfolding run standing step
held d [] = record { ready = fresh_shows; count = refl }
held d (hear f ∷ h) =
    let m = hear_met d (run d h) f (standing d h) (kept d h) (held d h).ready (held d h).count in
    record { ready = m.ready; count = m.count }
held d (back ∷ h) =
    let m = held_back (run d h).modules (run d h).log (standing d h) (kept d h) (held d h).ready (held d h).count in
    record { ready = m.0; count = m.1 }

-- What is held at a place of a module.
place_met : (x : Option Module) (S : List Frame) (a : ℕ) → At x S a → (m : Module) → x ≡ some m → (p : ℕ) → p < places → get_or m.places p none ≡ some (latest S a p)
place_met none S a h m e p l = absurd (none_some e)
place_met (some w) S a h m e p l = let o : w ≡ m = cc in rw o at (h.holds p l)

module _ (d : ℕ) (h : List Event) where
  pub shown-after : Shows (run d h).modules (standing d h)
  shown-after = ready_shows (run d h).log (run d h).modules (standing d h) (held d h).ready

  next_met : (e : Event) → (step d e (run d h)).answer ≡ answered d h e
  unfolding answered step
  next_met (hear f) = (hear_met d (run d h) f (standing d h) (kept d h) (held d h).ready (held d h).count).answers
  next_met back = (held_back (run d h).modules (run d h).log (standing d h) (kept d h) (held d h).ready (held d h).count).2

pub machine_agrees : MachineAgrees
machine_agrees d h =
    record {
      count = (held d h).count;
      type_at = λ a. kind_at (find (run d h).modules a) (standing d h) a ((shown-after d h).each a);
      place_at = λ a m e p l. place_met (find (run d h).modules a) (standing d h) a ((shown-after d h).each a) m e p l;
      taken = (shown-after d h).count;
      next = next_met d h;
    }

-- ---- the log keeps no more than the depth, and loses nothing
found_take : (n : ℕ) (us : List Undo) → AllFound us → AllFound (take n us)
found_take zero us h = tt
found_take (suc n) [] h = tt
found_take (suc n) (u ∷ us) h = (h.0, found_take n us h.1)

module _ (d : ℕ) where
  logged_sound : (ms : List Module) (u : Undo) (us : List Undo) → Found u → Sound d us → Sound d (logged d ms u us).state.log
  unfolding logged
  logged_sound ms u us f h = (rw (length-take d (u ∷ us)) (omega arith), found_take d (u ∷ us) (f, h.1))

  hears_sound : (x : Option Module) (a : ℕ) (m : Meaning) (s : State) → Sound d s.log → Sound d (hears d x a m s).state.log
  unfolding hears kept_as told_in
  hears_sound x a (refuses n) s h = h
  hears_sound none a (names r) s h = logged_sound s.modules same s.log tt h
  hears_sound (some w) a (names r) s h = go r.says
    where
      go : (xs : List Saying) → Sound d (told_in d xs (slot s.modules a) r w s).state.log
      go [] = logged_sound s.modules same s.log tt h
      go (x ∷ xs) = logged_sound (set s.modules (slot s.modules a) (told_by r w)) (wrote (slot s.modules a) r.start (olds w.places r.start)) s.log tt h
  hears_sound none a (enters k r) s h = go (ltb (length s.modules) room)
    where
      go : (c : Bool) → Sound d (cond c (logged d (s.modules ++ (new a k r ∷ [])) entered s.log) (kept_as s no_room)).state.log
      go true = logged_sound (s.modules ++ (new a k r ∷ [])) entered s.log tt h
      go false = h
  hears_sound (some w) a (enters k r) s h = (omega arith, tt)

  backs_sound : (ms : List Module) (us : List Undo) → Sound d us → Sound d (backs ms us).state.log
  unfolding backs kept_as
  backs_sound ms [] h = h
  backs_sound ms (u ∷ us) h = (let l = h.0 in omega arith, h.1.1)

  pub sound : (h : List Event) → Sound d (run d h).log
  unfolding run step
  sound [] = (omega arith, tt)
  sound (hear f ∷ h) = hears_sound _ (address f) _ (run d h) (sound h)
  sound (back ∷ h) = backs_sound (run d h).modules (run d h).log (sound h)
