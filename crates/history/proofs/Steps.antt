-- One step on the bytes is one step of the machine, as specs/Refinement.antt states it. Assumes nothing.
use Prim.Native.Nat.{ℕ, zero, suc, pred, ◌+◌, ◌%◌, ◌<◌, ◌≤◌}
use native.Mathlib.Omega.{arith}
use mathlib.Core.Path.{◌≡◌, refl, ap, ◌∙◌}
use mathlib.Core.Bool.{Bool, true, false, cond, not}
use mathlib.Core.List.{List, [], ◌∷◌, ◌++◌}
use mathlib.Core.Option.{Option, none, some}
use lib.Dec.{eqb, ltb}
use lib.ListN.{get_or, set, length}
use borrow.Author.Tests.{ltb-true, lt-ltb, ne_eqb}
use Rattle.laws.specs.Refusals.{no_room}
use Rattle.laws.specs.Tab.{tab}
use Rattle.laws.proofs.Tab.{get_d_tab, tab_ext}
use Rattle.kinds.specs.Types.{no_type}
use Rattle.shape.specs.Limits.{room, ring, addresses}
use Rattle.places.specs.Runs.{Run, Saying, Meaning, refuses, names, enters}
use Rattle.places.specs.Fitting.{Fits, FitsAs}
use Rattle.shape.specs.Layout.{next_at}
use Rattle.shape.specs.Head.{modules_of, kept_of, next_of, depth_of, before, no_slot}
use Rattle.shape.specs.Result.{Result, refusing, done}
use Rattle.places.proofs.Fitting.{runs_fit}
use Rattle.steering.specs.Steps.{stepped}
use Rattle.changes.specs.Telling.{told_bytes, same_bytes, is_empty, naming}
use Rattle.modules.specs.Records.{entered_bytes, exchanged_bytes}
use Rattle.picture.specs.Hearing.{entering, hearing_as, hearing_at, hearing}
use Rattle.stores.specs.Stepping.{undone, back_over, stepping_back}
use Rattle.history.specs.Standing.{Frame, address, sense, meaning, exchanged, outcome_of, hear, back}
use Rattle.history.specs.Machine.{Module, Undo, same, entered, wrote, State, Step, find, slot, kind_of, olds, told_by, new, undo, logged, kept_as, told_in, hears, backs, step}
use Rattle.history.specs.Demand3.{doing}
use Rattle.history.specs.Refinement.{undo_at, entries, state_of, Good, Sound, OneStep}
use Rattle.history.proofs.Parts.{modules_few, before_is, kept_is, enough, Does, stepped_good, stepped_depth, stepped_state, steer_good, steer_depth, steer_state}
use Rattle.history.proofs.Told.{does_told}
use Rattle.history.proofs.Noted.{does_same}
use Rattle.history.proofs.Entered.{does_listed}
use Rattle.history.proofs.Exchanged.{exchanged_good, exchanged_depth, exchanged_state}
use Rattle.history.proofs.Undoing.{Undone, undone_is}
use Rattle.history.proofs.Found.{Slot, slot-none, slot_some, unlisted, count_is, kind_none}

-- What a step on the bytes b has to meet.
record Met (b : List ℕ) (r : Result) (m : Step) : Type 0 where
  good : Good r.buffer
  depth : depth_of r.buffer ≡ depth_of b
  state : state_of r.buffer ≡ m.state
  answers : r.outcome ≡ outcome_of m.answer

-- ---- a frame at the address a
module _ (b : List ℕ) (good : Good b) (few : kept_of b ≤ depth_of b) (deep : depth_of b ≤ ring) (a : ℕ) (small : a < addresses) where
  abbrev ms : List Module
  ms = (state_of b).modules

  abbrev d : ℕ
  d = depth_of b

  met_refused : (n : ℕ) → Met b (refusing n b) (kept_as (state_of b) n)
  unfolding kept_as outcome_of
  met_refused n = record { good = good; depth = refl; state = refl; answers = refl }

  met_logged : (c : List ℕ) (u : Undo) (after : List Module) → Does b c u after → Met b (done (stepped c)) (logged d after u (state_of b).log)
  unfolding logged outcome_of
  met_logged c u after does =
      record { good = stepped_good b c u after does few deep; depth = stepped_depth b c u after does few deep; state = stepped_state b c u after does few deep; answers = refl }

  met_same : Met b (done (same_bytes b)) (logged d ms same (state_of b).log)
  unfolding same_bytes
  met_same = met_logged _ same ms (does_same b good)

  -- no module
  met_entered : (k : ℕ) (r : Run) → find ms a ≡ none → Fits r
      → Met b (cond (ltb (modules_of b) room) (done (entered_bytes b a k r)) (refusing no_room b))
      (cond (ltb (length ms) room) (logged d (ms ++ (new a k r ∷ [])) entered (state_of b).log) (kept_as (state_of b) no_room))
  unfolding entered_bytes
  met_entered k r e fit = rw (count_is b) (go (ltb (modules_of b) room) refl)
    where
      go : (c : Bool) → ltb (modules_of b) room ≡ c
          → Met b (cond c (done (entered_bytes b a k r)) (refusing no_room b)) (cond c (logged d (ms ++ (new a k r ∷ [])) entered (state_of b).log) (kept_as (state_of b) no_room))
      go true t = met_logged _ entered (ms ++ (new a k r ∷ [])) (does_listed b a k r good fit.0 small (ltb-true (modules_of b) room t) (unlisted b a e))
      go false t = met_refused no_room

  met_unlisted : (m : Meaning) → find ms a ≡ none → FitsAs m → Met b (hearing_as b no_slot a no_type m) (hears d none a (sense none m) (state_of b))
  unfolding hearing_as naming entering hears sense
  met_unlisted (refuses n) e fit = met_refused n
  met_unlisted (names r) e fit = met_same
  met_unlisted (enters k r) e fit = met_entered k r e fit

  -- the module w
  module _ (w : Module) (at : Slot b a w) where
    in-room : slot ms a < room
    in-room = omega (arith, at.there, modules_few b)

    met-named : (r : Run) → Fits r → Met b (done (naming b (slot ms a) r)) (told_in d r.says (slot ms a) r w (state_of b))
    unfolding naming told_in told_bytes
    met-named r fit = rw (lt-ltb (slot ms a) room in-room) (go r.says refl)
      where
        go : (xs : List Saying) → r.says ≡ xs → Met b (done (cond (not (is_empty xs)) (told_bytes b (slot ms a) r) (same_bytes b))) (told_in d xs (slot ms a) r w (state_of b))
        go [] q = met_same
        go (x ∷ xs) q =
            let end = fit.0 in
            let n = ap length q in
            met_logged _ (wrote (slot ms a) r.start (olds w.places r.start)) (set ms (slot ms a) (told_by r w))
            (rw at.holds at (does_told b (slot ms a) r good in-room (omega arith) end))

    met-exchanged : (k : ℕ) (r : Run) → Fits r
        → Met b (done (exchanged_bytes b (slot ms a) a k r)) (record { state = record { modules = set ms (slot ms a) (new a k r); log = [] }; answer = exchanged })
    unfolding outcome_of
    met-exchanged k r fit =
        record {
          good = exchanged_good b (slot ms a) a k r good fit.0 at.there at.own;
          depth = exchanged_depth b (slot ms a) a k r good fit.0 at.there at.own;
          state = exchanged_state b (slot ms a) a k r good fit.0 at.there at.own;
          answers = refl;
        }

    met-listed : (m : Meaning) → FitsAs m → Met b (hearing_as b (slot ms a) a w.kind m) (hears d (some w) a (sense (some w.kind) m) (state_of b))
    unfolding hearing_as entering hears sense
    met-listed (refuses n) fit = met_refused n
    met-listed (names r) fit = met-named r fit
    met-listed (enters k r) fit = rw (lt-ltb (slot ms a) room in-room) (go (eqb w.kind k))
      where
        go : (c : Bool) → Met b (done (cond c (naming b (slot ms a) r) (exchanged_bytes b (slot ms a) a k r))) (hears d (some w) a (cond c (names r) (enters k r)) (state_of b))
        go true = met-named r fit
        go false = met-exchanged k r fit

module _ (b : List ℕ) (good : Good b) (few : kept_of b ≤ depth_of b) (deep : depth_of b ≤ ring) (f : Frame) where
  heard_by_lem : (x : Option Module) → find (state_of b).modules (address f) ≡ x
      → Met b (hearing b f.identifier f.remote f.bytes) (hears (depth_of b) x (address f) (meaning (kind_of x) f) (state_of b))
  unfolding hearing hearing_at meaning
  heard_by_lem none e =
      rw (enough b good, slot-none b (address f) e, kind_none b)
      (met_unlisted b good few deep (address f) (omega arith) _ e (runs_fit no_type f.identifier f.remote f.bytes))
  heard_by_lem (some m) e =
      let at = slot_some b good (address f) m e in
      rw (enough b good, at.table_has, at.kind_has)
      (met-listed b good few deep (address f) (omega arith) m at _ (runs_fit m.kind f.identifier f.remote f.bytes))

-- ---- a step back
module _ (b : List ℕ) (good : Good b) (sound : Sound (depth_of b) (state_of b).log) where
  abbrev last : ℕ
  last = before (next_of b)

  log_none : kept_of b ≡ 0 → (state_of b).log ≡ []
  unfolding state_of entries
  log_none h = rw h

  log_pops : (k : ℕ) → kept_of b ≡ suc k → (state_of b).log ≡ undo_at b last ∷ entries (tab ring (undo_at b)) last k
  unfolding state_of entries
  log_pops k h = rw (h, get_d_tab ring (undo_at b) last same (omega arith))

  abbrev undid : List ℕ
  undid = undone b last

  module _ (k : ℕ) (h : kept_of b ≡ suc k) where
    taken : Undone b undid (undo_at b last)
    taken = undone_is b last good (omega arith) (rw (log_pops k h) at sound).1.0

    over-good : Good (back_over b)
    unfolding back_over
    over-good = steer_good undid _ _ taken.good.whole taken.good

    over-depth : depth_of (back_over b) ≡ depth_of b
    unfolding back_over
    over-depth = steer_depth undid _ _ taken.good.whole ∙ taken.depth_is

    over-state : state_of (back_over b) ≡ record { modules = undo (undo_at b last) (state_of b).modules; log = entries (tab ring (undo_at b)) last k }
    unfolding back_over
    over-state =
        let q : pred (kept_of b) ≡ k = omega arith in
        steer_state undid (pred (kept_of b)) ((get_or b next_at 0 + 255) % 256) taken.good.whole _ last taken.modules_are (before_is b)
        ∙ rw (q, tab_ext ring (undo_at undid) (undo_at b) (λ j l. taken.undo_is j))

  met_back : (k : ℕ) → kept_of b ≡ k → Met b (stepping_back b) (backs (state_of b).modules (state_of b).log)
  unfolding stepping_back backs kept_as outcome_of
  met_back zero h = rw (enough b good, h, log_none h) (record { good = good; depth = refl; state = ap {B = State} (λ us. record { modules = (state_of b).modules; log = us }) (log_none h); answers = refl })
  met_back (suc k) h = rw (enough b good, ne_eqb (kept_of b) 0 (λ q. omega arith), log_pops k h) (record { good = over-good k h; depth = over-depth k h; state = over-state k h; answers = refl })

pub one-step : OneStep
unfolding doing step
one-step (hear f) b good deep sound =
    let m = heard_by_lem b good (rw (kept_is b) at sound.0) deep f (find (state_of b).modules (address f)) refl in
    record { good = m.good; depth = m.depth; state = m.state; answer = m.answers }
one-step back b good deep sound = let m = met_back b good sound (kept_of b) refl in record { good = m.good; depth = m.depth; state = m.state; answer = m.answers }
