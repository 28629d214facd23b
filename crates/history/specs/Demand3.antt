-- Demand 3: after any run of frames heard and steps back from a fresh picture, each answer is the one that the standing frames tell.
-- First of the machine, then of the bytes. The proofs are proofs/Machine.antt, proofs/ModulesListed.antt,
-- proofs/Demand3.antt and proofs/Refused.antt.
use Rattle.std.specs.Prelude.{ℕ, zero, suc, ◌+◌, ◌<◌, ◌≤◌, ◌≡◌, List, [], ◌∷◌, reverse, length, get_or, Err, Some, Ok}
use Rattle.std.proofs.Math.Option.{Option, none, some}
use Rattle.places.specs.Places.{places}
use Rattle.shape.specs.Result.{Result}
use Rattle.shape.specs.Layout.{size}
use Rattle.picture.specs.Hearing.{hearing}
use Rattle.stores.specs.Stepping.{stepping_back}
use Rattle.steering.specs.Fresh.{freshening_with}
use Rattle.questions.specs.Question.{Question}
use Rattle.questions.specs.Replies.{reply, kept_answer, listing}
use Rattle.history.specs.Standing.{Frame, Known, standing_type, latest, listed, Event, hear, back, deepest, standing, kept, answered, outcome_of}
use Rattle.history.specs.Asked.{yes_if, told_reply, told_listed}
use Rattle.history.specs.Machine.{Module, run, step, find, kind_of}

-- ---- the machine
pub record Agrees (d : ℕ) (h : List Event) : Type 0 where
  -- the count kept
  pub count : length (run d h).log ≡ kept d h
  -- which addresses are listed, and with which type
  pub type_at : (a : ℕ) → kind_of (find (run d h).modules a) ≡ standing_type (standing d h) a
  -- every place of every module
  pub place_at : (a : ℕ) (m : Module) → find (run d h).modules a ≡ some m → (p : ℕ) → p < places → get_or m.places p none ≡ some (latest (standing d h) a p)
  -- the room taken
  pub taken : length (run d h).modules ≡ listed (standing d h)
  -- the answer to whatever comes next
  pub next : (e : Event) → (step d e (run d h)).answer ≡ answered d h e

abbrev pub MachineAgrees : Type 0
MachineAgrees = (d : ℕ) (h : List Event) → Agrees d h

-- The number of modules listed is the number of the 256 addresses with a type.
unfoldable pub listed_below : ℕ → List Frame → ℕ
listed_below zero S = 0
listed_below (suc n) S = yes_if (standing_type S n) + listed_below n S

abbrev pub ListedIs : Type 0
ListedIs = (S : List Frame) → listed S ≡ listed_below 256 S

-- ---- the bytes
-- what an event does to the bytes
unfoldable pub doing : Event → List ℕ → Result
doing (hear f) b = hearing b f.identifier f.remote f.bytes
doing back b = stepping_back b

-- the bytes after a run of events, latest first, from a fresh picture of the depth d laid into the bytes b
unfoldable pub run_bytes : List ℕ → ℕ → List Event → List ℕ
run_bytes b d [] = (freshening_with b d).buffer
run_bytes b d (e ∷ h) = (doing e (run_bytes b d h)).buffer

-- the same with the events in the order in which they happen
unfoldable pub runs_bytes : List ℕ → List Event → List ℕ
runs_bytes b [] = b
runs_bytes b (e ∷ es) = runs_bytes (doing e b).buffer es

abbrev pub InOrder : Type 0
InOrder = (b : List ℕ) (d : ℕ) (es : List Event) → runs_bytes (freshening_with b d).buffer es ≡ run_bytes b d (reverse es)

-- Every question on the address a, with any lent buffer, is answered as the type t and what is known of each place tell.
abbrev pub Tells : List ℕ → ℕ → Option ℕ → (ℕ → Known) → Type 0
Tells b a t known = (q : Question) (out : List ℕ) → reply b a q out ≡ told_reply t known q out

-- every question, and the answer to every next event
pub record Answers (b : List ℕ) (d : ℕ) (h : List Event) : Type 0 where
  pub count : kept_answer b ≡ Ok (Some (kept d h))
  pub addresses_listed : (out : List ℕ) → listing b out ≡ told_listed (standing d h) out
  pub each : (a : ℕ) → Tells b a (standing_type (standing d h) a) (latest (standing d h) a)
  pub next : (e : Event) → (doing e b).outcome ≡ outcome_of (answered d h e)

-- for every depth that may be named, every buffer and every run of events
abbrev pub Demand3 : Type 0
Demand3 = (b : List ℕ) → size ≤ length b → (d : ℕ) → d ≤ deepest → (h : List Event) → Answers (run_bytes b d h) d h

-- A refusal changes no byte, whatever the bytes are.
abbrev pub RefusedKeeps : Type 0
RefusedKeeps = (e : Event) (b : List ℕ) (n : ℕ) → (doing e b).outcome ≡ Err n → (doing e b).buffer ≡ b
