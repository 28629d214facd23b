-- The run of an accepted frame lies at places that its type has, and has no more places than a frame speaks of. The proof is proofs/Fitting.antt.
use Rattle.std.specs.Prelude.{ℕ, ◌+◌, ◌*◌, ◌≤◌, List, length}
use Rattle.kinds.specs.Types.{extent_of}
use Rattle.judging.specs.Reading.{reading}
use Rattle.places.specs.Places.{most_places, places, week_place, led_place, blind_place, name_length, character_place, cell_place}
use Rattle.places.specs.Runs.{Run, Meaning, refuses, names, enters, read_as}

-- where a run ends
abbrev pub end_of : Run → ℕ
end_of r = r.start + length r.says

-- The run lies in one part of what a module of the type has: the build, the LEDs, the blinds, the names or the cells.
pub data Lies : ℕ → Run → Type 0 where
  in_build : {kind : ℕ} {r : Run} → end_of r ≤ week_place + 1 → Lies kind r
  in_leds : {kind : ℕ} {r : Run} → led_place 1 ≤ r.start → end_of r ≤ led_place 1 + (extent_of kind).leds → Lies kind r
  in_blinds : {kind : ℕ} {r : Run} → blind_place 1 ≤ r.start → end_of r ≤ blind_place 1 + (extent_of kind).blinds → Lies kind r
  in_names : {kind : ℕ} {r : Run} → character_place kind 1 1 ≤ r.start
      → end_of r ≤ character_place kind 1 1 + name_length * (extent_of kind).names → Lies kind r
  in_cells : {kind : ℕ} {r : Run} → cell_place kind 0 ≤ r.start → end_of r ≤ cell_place kind 0 + (extent_of kind).cells → Lies kind r

-- at the type that the frame is heard as: the one that it enters, else the one handed to the reader
abbrev pub LiesAs : ℕ → Meaning → Type 0
LiesAs kind (refuses n) = Unit {0}
LiesAs kind (names r) = Lies kind r
LiesAs kind (enters k r) = Lies k r

abbrev pub RunsLie : Type 0
RunsLie = (kind identifier remote : ℕ) (bytes : List ℕ) → LiesAs kind (read_as kind (reading kind identifier remote bytes))

-- so that it is inside the record
abbrev pub Fits : Run → Type 0
Fits r = (end_of r ≤ places) × (length r.says ≤ most_places)

abbrev pub FitsAs : Meaning → Type 0
FitsAs (refuses n) = Unit {0}
FitsAs (names r) = Fits r
FitsAs (enters k r) = Fits r

abbrev pub RunsFit : Type 0
RunsFit = (kind identifier remote : ℕ) (bytes : List ℕ) → FitsAs (read_as kind (reading kind identifier remote bytes))
