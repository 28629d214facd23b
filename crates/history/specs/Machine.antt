-- A STEP OF A PROOF, which no promise cites: what the code does, without bytes. Modules in order of entry, and a log of what each step changed, latest
-- first. Assumes nothing.
use Rattle.std.specs.Prelude.{ℕ, zero, suc, cond, List, [], ◌∷◌, ◌++◌, eqb, ltb, length, get_or, set, take, replicate}
use Rattle.std.proofs.Math.Option.{Option, none, some}
use Rattle.laws.specs.Refusals.{no_room, nothing_kept}
use Rattle.shape.specs.Limits.{room}
use Rattle.places.specs.Places.{most_places, places}
use Rattle.places.specs.Runs.{Run, Saying, silent, asks, tells, Meaning, refuses, names, enters}
use Rattle.history.specs.Standing.{address, meaning, Known, unknown, told, Judgement, refused, accepted, exchanged, Event, hear, back}

-- What a place holds: what is known of it; none for bytes that no run leaves.
abbrev pub Cell : Type 0
Cell = Option Known

pub record Module : Type 0 where
  pub address : ℕ
  pub kind : ℕ
  pub places : List Cell

-- What undoes a step: nothing, the last module goes, or a row of places of the module in a slot gets its old contents; lost stands for bytes that no run
-- leaves.
pub data Undo : Type 0 where
  same : Undo
  entered : Undo
  wrote : ℕ → ℕ → List Cell → Undo
  lost : Undo

pub record State : Type 0 where
  pub modules : List Module
  pub log : List Undo

pub record Step : Type 0 where
  pub state : State
  pub answer : Judgement

abbrev pub fresh : State
fresh = record { modules = []; log = [] }

-- The module at an address, and its slot (the number of modules where there is none).
unfoldable pub find : List Module → ℕ → Option Module
find [] a = none
find (m ∷ ms) a = cond (eqb m.address a) (some m) (find ms a)

unfoldable pub slot : List Module → ℕ → ℕ
slot [] a = zero
slot (m ∷ ms) a = cond (eqb m.address a) zero (suc (slot ms a))

abbrev pub kind_of : Option Module → Option ℕ
kind_of none = none
kind_of (some m) = some m.kind

-- A run written into a row of places, eight of the row's old contents from a place on, and these put back.
unfoldable pub put : List Cell → ℕ → Saying → List Cell
put l i silent = l
put l i asks = set l i (some unknown)
put l i (tells v) = set l i (some (told v))

unfoldable pub write : List Cell → ℕ → List Saying → List Cell
write l i [] = l
write l i (x ∷ xs) = write (put l i x) (suc i) xs

unfoldable pub olds_from : List Cell → ℕ → ℕ → List Cell
olds_from l i zero = []
olds_from l i (suc n) = get_or l i none ∷ olds_from l (suc i) n

abbrev pub olds : List Cell → ℕ → List Cell
olds l i = olds_from l i most_places

unfoldable pub restore : List Cell → ℕ → List Cell → List Cell
restore l i [] = l
restore l i (o ∷ os) = set (restore l (suc i) os) i o

unfoldable pub told_by : Run → Module → Module
told_by r m = record { address = m.address; kind = m.kind; places = write m.places r.start r.says }

unfoldable pub restored : ℕ → List Cell → Module → Module
restored i os m = record { address = m.address; kind = m.kind; places = restore m.places i os }

-- A new module: every place unknown, then the build.
unfoldable pub blank : List Cell
blank = replicate places (some unknown)

unfoldable pub new : ℕ → ℕ → Run → Module
new a k r = record { address = a; kind = k; places = write blank r.start r.says }

abbrev pub nobody : Module
nobody = record { address = 0; kind = 0; places = [] }

unfoldable pub but_last : List Module → List Module
but_last [] = []
but_last (m ∷ []) = []
but_last (m ∷ (n ∷ ms)) = m ∷ but_last (n ∷ ms)

unfoldable pub undo : Undo → List Module → List Module
undo same ms = ms
undo entered ms = but_last ms
undo (wrote s i os) ms = set ms s (restored i os (get_or ms s nobody))
undo lost ms = ms

-- A step that is logged, d deep: the oldest entry goes where the log is full.
unfoldable pub logged : ℕ → List Module → Undo → List Undo → Step
logged d ms u log = record { state = record { modules = ms; log = take d (u ∷ log) }; answer = accepted }

unfoldable pub kept_as : State → ℕ → Step
kept_as s n = record { state = s; answer = refused n }

-- A run heard by the module m in slot i; one of no place has no effect.
unfoldable pub told_in : ℕ → List Saying → ℕ → Run → Module → State → Step
told_in d [] i r m s = logged d s.modules same s.log
told_in d (x ∷ xs) i r m s = logged d (set s.modules i (told_by r m)) (wrote i r.start (olds m.places r.start)) s.log

unfoldable pub hears : ℕ → Option Module → ℕ → Meaning → State → Step
hears d x a (refuses n) s = kept_as s n
hears d none a (names r) s = logged d s.modules same s.log
hears d (some m) a (names r) s = told_in d r.says (slot s.modules a) r m s
hears d none a (enters k r) s =
    cond (ltb (length s.modules) room) (logged d (s.modules ++ (new a k r ∷ [])) entered s.log) (kept_as s no_room)
hears d (some m) a (enters k r) s =
    record { state = record { modules = set s.modules (slot s.modules a) (new a k r); log = [] }; answer = exchanged }

unfoldable pub backs : List Module → List Undo → Step
backs ms [] = kept_as (record { modules = ms; log = [] }) nothing_kept
backs ms (u ∷ log) = record { state = record { modules = undo u ms; log = log }; answer = accepted }

unfoldable pub step : ℕ → Event → State → Step
step d (hear f) s = hears d (find s.modules (address f)) (address f) (meaning (kind_of (find s.modules (address f))) f) s
step d back s = backs s.modules s.log

-- The state after a run of events, latest first, from a fresh one.
unfoldable pub run : ℕ → List Event → State
run d [] = fresh
run d (e ∷ h) = (step d e (run d h)).state
