-- A STEP OF A PROOF, which no promise cites: the machine's state that the bytes hold, and the statement that one step on the bytes is one step of the
-- machine. The proof is proofs/Steps.antt.
use Rattle.std.specs.Prelude.{ℕ, zero, suc, ◌+◌, ◌-◌, ◌*◌, ◌/◌, ◌%◌, ◌<◌, ◌≤◌, ◌≡◌, cond, ◌&&◌, List, [], ◌∷◌, eqb, ltb, leb, get_or, length}
use Rattle.std.proofs.Math.Option.{none, some}
use Rattle.laws.specs.Tab.{tab}
use Rattle.shape.specs.Limits.{ring, addresses}
use Rattle.places.specs.Places.{most_places, places}
use Rattle.shape.specs.Layout.{slot_at, records_at, record_head, record_size, record_at, kind_at, place_at, ring_at, old_size, old_at, size}
use Rattle.shape.specs.Head.{modules_of, kept_of, next_of, depth_of, before}
use Rattle.stores.specs.Log.{did_enter}
use Rattle.stores.specs.Stepping.{offset_of}
use Rattle.history.specs.Standing.{unknown, told, outcome_of, Event}
use Rattle.history.specs.Machine.{Cell, Module, Undo, same, entered, wrote, lost, State, step}
use Rattle.history.specs.Demand3.{doing}

-- what a place holds by its two bytes: a value and 0 where it is told, 0 and 1 where it is not heard
abbrev pub cell_of : ℕ → ℕ → Cell
cell_of v zero = some (told v)
cell_of zero (suc zero) = some unknown
cell_of zero (suc (suc t)) = none
cell_of (suc v) (suc t) = none

unfoldable pub cell_at : List ℕ → ℕ → Cell
cell_at b o = cell_of (get_or b o 0) (get_or b (o + 1) 0)

-- the module in slot s
unfoldable pub module_at : List ℕ → ℕ → Module
module_at b s = record { address = get_or b (record_at s) 0; kind = get_or b (kind_at s) 0; places = tab places (λ p. cell_at b (place_at s p)) }

-- the offset of a place: how far into which record, and which place it is
abbrev pub record_of : ℕ → ℕ
record_of o = (o - records_at) / record_size

abbrev pub place_of : ℕ → ℕ
place_of o = ((o - records_at) % record_size - record_head) / 2

-- the i-th of the eight old contents that the log's entry e keeps, from a place on; past the last place there is none
abbrev pub old_cell : List ℕ → ℕ → ℕ → ℕ → Cell
old_cell b e place i = cond (ltb (place + i) places) (cell_at b (old_at e + 2 * i)) none

-- what the entry puts back at an offset; one that is no place of a record is lost
unfoldable pub wrote_at : List ℕ → ℕ → ℕ → Undo
wrote_at b e o =
    cond (eqb (place_at (record_of o) (place_of o)) o && ltb (place_of o) places) (wrote (record_of o) (place_of o) (tab most_places (old_cell b e (place_of o)))) lost

-- what the log's entry e undoes
unfoldable pub undo_at : List ℕ → ℕ → Undo
undo_at b e =
    cond (leb (offset_of b e) (ring_at - old_size)) (wrote_at b e (offset_of b e))
    (cond (eqb (offset_of b e) did_enter) entered same)

-- the entries that the ring holds, latest first: the latest stands before `next`, going round, and `count` of them are kept
unfoldable pub entries : List Undo → ℕ → ℕ → List Undo
entries us next zero = []
entries us next (suc count) = get_or us (before next) same ∷ entries us (before next) count

unfoldable pub state_of : List ℕ → State
state_of b = record { modules = tab (modules_of b) (module_at b); log = entries (tab ring (undo_at b)) (next_of b) (kept_of b) }

-- What every call leaves so: the bytes are enough, and the table names the slot of each module's address.
pub record Good (b : List ℕ) : Type 0 where
  pub whole : size ≤ length b
  pub small : (s : ℕ) → s < modules_of b → get_or b (record_at s) 0 < addresses
  pub table : (s : ℕ) → s < modules_of b → get_or b (slot_at (get_or b (record_at s) 0)) 0 ≡ s

-- and the log keeps no more than the depth, and has lost nothing
abbrev pub Found : Undo → Type 0
Found same = Unit {0}
Found entered = Unit {0}
Found (wrote s i os) = Unit {0}
Found lost = ⊥

abbrev pub AllFound : List Undo → Type 0
AllFound [] = Unit {0}
AllFound (u ∷ us) = Found u × AllFound us

abbrev pub Sound : ℕ → List Undo → Type 0
Sound d us = (length us ≤ d) × AllFound us

-- One step on the bytes is one step of the machine, as deep as the bytes say, and leaves the depth as it was.
pub record Refines (e : Event) (b : List ℕ) : Type 0 where
  pub good : Good (doing e b).buffer
  pub depth : depth_of (doing e b).buffer ≡ depth_of b
  pub state : state_of (doing e b).buffer ≡ (step (depth_of b) e (state_of b)).state
  pub answer : (doing e b).outcome ≡ outcome_of (step (depth_of b) e (state_of b)).answer

abbrev pub OneStep : Type 0
OneStep = (e : Event) (b : List ℕ) → Good b → depth_of b ≤ ring → Sound (depth_of b) (state_of b).log → Refines e b
