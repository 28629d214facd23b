-- The list of modules shows what the standing frames tell, and goes on doing so at each accepted frame. Assumes nothing.
use Prim.Native.Nat.{ℕ, suc, ◌<◌}
use native.Mathlib.Numerals.{add-one}
use mathlib.Core.Path.{◌≡◌, refl, sym, ap, ◌∙◌, subst}
use mathlib.Core.Bool.{Bool, true, false, cond}
use mathlib.Core.List.{List, [], ◌∷◌, ◌++◌}
use mathlib.Core.Option.{Option, none, some}
use lib.Dec.{eqb}
use lib.ListN.{length, get_or, set, length-replicate, get_or-replicate, length-append, length-set}
use borrow.Author.Tests.{eqb-true, eq-eqb}
use Rattle.places.specs.Places.{places}
use Rattle.places.specs.Runs.{Run, said_from, Meaning, names, enters}
use Rattle.history.specs.Standing.{Frame, address, meaning, typed, standing_type, unknown, after, gave, latest, more, listed}
use Rattle.history.specs.Machine.{Module, blank, find, slot, kind_of, told_by, new}
use Rattle.history.proofs.Rows.{write-length, write_at}
use Rattle.history.proofs.Modules.{find-address, find-set, find-append}

-- The module m is what the standing frames S tell of the address a.
pub record Fits (m : Module) (S : List Frame) (a : ℕ) : Type 0 where
  pub kind_is : standing_type S a ≡ some m.kind
  pub long : length m.places ≡ places
  pub holds : (p : ℕ) → p < places → get_or m.places p none ≡ some (latest S a p)

abbrev pub At : Option Module → List Frame → ℕ → Type 0
At none S a = standing_type S a ≡ none
At (some m) S a = Fits m S a

pub record Shows (ms : List Module) (S : List Frame) : Type 0 where
  pub count : length ms ≡ listed S
  pub each : (a : ℕ) → At (find ms a) S a

pub kind_at : (x : Option Module) (S : List Frame) (a : ℕ) → At x S a → kind_of x ≡ standing_type S a
kind_at none S a h = sym h
kind_at (some m) S a h = sym h.kind_is

-- a new module's row of places, opened in these two alone
blank-length : length blank ≡ places
unfolding blank
blank-length = length-replicate places (some unknown)

blank_at : (p : ℕ) → p < places → get_or blank p none ≡ some unknown
unfolding blank
blank_at p l = get_or-replicate places p (some unknown) none l

-- What a frame changes at its own address, and that it changes nothing at another.
module _ (f : Frame) (S : List Frame) where
  pub other_type : (b : ℕ) → eqb (address f) b ≡ false → standing_type (f ∷ S) b ≡ standing_type S b
  unfolding standing_type typed
  other_type b e = rw e

  pub other_latest : (b p : ℕ) → eqb (address f) b ≡ false → latest (f ∷ S) b p ≡ latest S b p
  unfolding latest gave
  other_latest b p e = rw e

  pub here_type : (r : Meaning) → meaning (standing_type S (address f)) f ≡ r → standing_type (f ∷ S) (address f) ≡ typed true r (standing_type S (address f))
  unfolding standing_type
  here_type r e = rw (eq-eqb (address f) (address f) refl, e)

  pub here_latest : (r : Meaning) (p : ℕ) → meaning (standing_type S (address f)) f ≡ r → latest (f ∷ S) (address f) p ≡ gave true r p (latest S (address f) p)
  unfolding latest
  here_latest r p e = rw (eq-eqb (address f) (address f) refl, e)

  at_other : (x : Option Module) (b : ℕ) → eqb (address f) b ≡ false → At x S b → At x (f ∷ S) b
  at_other none b e h = other_type b e ∙ h
  at_other (some m) b e h =
      record { kind_is = other_type b e ∙ h.kind_is; long = h.long; holds = λ p l. h.holds p l ∙ ap some (sym (other_latest b p e)) }

  -- a module changed or entered at the frame's address
  changed : (ms ms' : List Module) (m' : Module) → ((b : ℕ) → find ms' b ≡ cond (eqb (address f) b) (some m') (find ms b)) → ((b : ℕ) → At (find ms b) S b)
      → Fits m' (f ∷ S) (address f) → (b : ℕ) → At (find ms' b) (f ∷ S) b
  changed ms ms' m' h each here b = rw (h b) (go (eqb (address f) b) refl)
    where
      go : (c : Bool) → eqb (address f) b ≡ c → At (cond c (some m') (find ms b)) (f ∷ S) b
      go true e = subst (λ (x : ℕ). Fits m' (f ∷ S) x) (eqb-true (address f) b e) here
      go false e = at_other (find ms b) b e (each b)

  fits_told : (r : Run) (m : Module) → meaning (standing_type S (address f)) f ≡ names r → Fits m S (address f) → Fits (told_by r m) (f ∷ S) (address f)
  unfolding told_by typed gave
  fits_told r m e h =
      record {
        kind_is = here_type (names r) e ∙ h.kind_is;
        long = write-length m.places r.start r.says ∙ h.long;
        holds = λ p l. write_at m.places r.start r.says p (latest S (address f) p) (rw h.long l) (h.holds p l) ∙ ap some (sym (here_latest (names r) p e));
      }

  fits-new : (k : ℕ) (r : Run) → meaning (standing_type S (address f)) f ≡ enters k r → Fits (new (address f) k r) (f ∷ S) (address f)
  unfolding new typed gave
  fits-new k r e =
      record {
        kind_is = here_type (enters k r) e;
        long = write-length blank r.start r.says ∙ blank-length;
        holds = λ p l. write_at blank r.start r.says p unknown (rw blank-length l) (blank_at p l) ∙ ap some (sym (here_latest (enters k r) p e));
      }

  listed_names : (r : Run) → meaning (standing_type S (address f)) f ≡ names r → listed (f ∷ S) ≡ listed S
  unfolding listed more
  listed_names r e = rw e

  listed-new : (k : ℕ) (r : Run) → standing_type S (address f) ≡ none → meaning (standing_type S (address f)) f ≡ enters k r → listed (f ∷ S) ≡ suc (listed S)
  unfolding listed more
  listed-new k r t e = rw (e, t)

  listed_exchanged : (k : ℕ) (r : Run) (t : ℕ) → standing_type S (address f) ≡ some t → meaning (standing_type S (address f)) f ≡ enters k r → listed (f ∷ S) ≡ listed S
  unfolding listed more
  listed_exchanged k r t h e = rw (e, h)

  -- what is shown at the frame's own address, by what is found there
  none_here : (ms : List Module) → find ms (address f) ≡ none → Shows ms S → standing_type S (address f) ≡ none
  none_here ms x s = rw x at (s.each (address f))

  some_here : (ms : List Module) (m : Module) → find ms (address f) ≡ some m → Shows ms S → Fits m S (address f)
  some_here ms m x s = rw x at (s.each (address f))

  -- the ways in which an accepted frame goes
  shows_same : (ms : List Module) (r : Run) → meaning (standing_type S (address f)) f ≡ names r → At (find ms (address f)) (f ∷ S) (address f) → Shows ms S → Shows ms (f ∷ S)
  shows_same ms r e here s = record { count = s.count ∙ sym (listed_names r e); each = λ b. go b (eqb (address f) b) refl }
    where
      go : (b : ℕ) (c : Bool) → eqb (address f) b ≡ c → At (find ms b) (f ∷ S) b
      go b true t = subst (λ (y : ℕ). At (find ms y) (f ∷ S) y) (eqb-true (address f) b t) here
      go b false t = at_other (find ms b) b t (s.each b)

  -- no module, and a run of no place
  pub shows_nobody : (ms : List Module) (r : Run) → find ms (address f) ≡ none → meaning (standing_type S (address f)) f ≡ names r → Shows ms S → Shows ms (f ∷ S)
  unfolding typed
  shows_nobody ms r x e s = shows_same ms r e (rw x (here_type (names r) e ∙ none_here ms x s)) s

  pub shows_nothing : (ms : List Module) (r : Run) (m : Module) → r.says ≡ [] → find ms (address f) ≡ some m → meaning (standing_type S (address f)) f ≡ names r → Shows ms S → Shows ms (f ∷ S)
  unfolding typed gave after said_from
  shows_nothing ms r m q x e s =
      let h = some_here ms m x s in
      let here : Fits m (f ∷ S) (address f) =
      record {
        kind_is = here_type (names r) e ∙ h.kind_is;
        long = h.long;
        holds = λ p l. h.holds p l ∙ ap some (sym (here_latest (names r) p e ∙ rw q));
      } in
      shows_same ms r e (rw x here) s

  pub shows_told : (ms : List Module) (r : Run) (m : Module) → find ms (address f) ≡ some m → meaning (standing_type S (address f)) f ≡ names r → Shows ms S
      → Shows (set ms (slot ms (address f)) (told_by r m)) (f ∷ S)
  unfolding told_by
  shows_told ms r m x e s =
      record {
        count = length-set ms (slot ms (address f)) (told_by r m) ∙ s.count ∙ sym (listed_names r e);
        each = changed ms (set ms (slot ms (address f)) (told_by r m)) (told_by r m) (find-set ms (address f) m (told_by r m) x (find-address ms (address f) m x)) s.each (fits_told r m e (some_here ms m x s));
      }

  pub shows_new : (ms : List Module) (k : ℕ) (r : Run) → find ms (address f) ≡ none → meaning (standing_type S (address f)) f ≡ enters k r → Shows ms S
      → Shows (ms ++ (new (address f) k r ∷ [])) (f ∷ S)
  unfolding new
  shows_new ms k r x e s =
      record {
        count = length-append ms (new (address f) k r ∷ []) ∙ add-one (length ms) ∙ ap suc s.count ∙ sym (listed-new k r (none_here ms x s) e);
        each = changed ms (ms ++ (new (address f) k r ∷ [])) (new (address f) k r) (find-append ms (new (address f) k r) x) s.each (fits-new k r e);
      }

  pub shows_exchanged : (ms : List Module) (k : ℕ) (r : Run) (m : Module) → find ms (address f) ≡ some m → meaning (standing_type S (address f)) f ≡ enters k r → Shows ms S
      → Shows (set ms (slot ms (address f)) (new (address f) k r)) (f ∷ S)
  unfolding new
  shows_exchanged ms k r m x e s =
      record {
        count = length-set ms (slot ms (address f)) (new (address f) k r) ∙ s.count ∙ sym (listed_exchanged k r m.kind (some_here ms m x s).kind_is e);
        each = changed ms (set ms (slot ms (address f)) (new (address f) k r)) (new (address f) k r) (find-set ms (address f) m (new (address f) k r) x refl) s.each (fits-new k r e);
      }
