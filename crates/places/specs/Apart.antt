-- Different things of a module have different places, but for a character and its cell where names live in memory, which are one; and each of them
-- lies in its record. The proof is proofs/Apart.antt.
use Rattle.std.specs.Prelude.{ℕ, ◌+◌, ◌-◌, ◌*◌, ◌<◌, ◌≡◌, ◌↔◌, true, cond}
use Rattle.kinds.specs.Types.{extent_of, names_in_memory}
use Rattle.places.specs.Places.{places, year_place, week_place, led_place, blind_place, within, name_length, character_place, cell_place}

-- a thing that is told or not heard
pub data Thing : Type 0 where
  year : Thing
  week : Thing
  led : ℕ → Thing
  blind : ℕ → Thing
  character : ℕ → ℕ → Thing
  cell : ℕ → Thing

-- a module of the type has it
abbrev pub Has : ℕ → Thing → Type 0
Has kind year = Unit {0}
Has kind week = Unit {0}
Has kind (led n) = within n (extent_of kind).leds ≡ true
Has kind (blind n) = within n (extent_of kind).blinds ≡ true
Has kind (character name i) = (within name (extent_of kind).names ≡ true) × (within i name_length ≡ true)
Has kind (cell location) = location < (extent_of kind).cells

abbrev pub place_of : ℕ → Thing → ℕ
place_of kind year = year_place
place_of kind week = week_place
place_of kind (led n) = led_place n
place_of kind (blind n) = blind_place n
place_of kind (character name i) = character_place kind name i
place_of kind (cell location) = cell_place kind location

-- what a thing is: where names live in memory, character i of channel c is cell 16 × (c − 1) + i − 1; and every other thing is itself
abbrev pub is : ℕ → Thing → Thing
is kind year = year
is kind week = week
is kind (led n) = led n
is kind (blind n) = blind n
is kind (character name i) = cond (names_in_memory kind) (cell (16 * (name - 1) + (i - 1))) (character name i)
is kind (cell location) = cell location

-- two things have one place exactly where they are the same
abbrev pub Apart : Type 0
Apart = (kind : ℕ) (a b : Thing) → Has kind a → Has kind b → (place_of kind a ≡ place_of kind b) ↔ (is kind a ≡ is kind b)

abbrev pub Inside : Type 0
Inside = (kind : ℕ) (a : Thing) → Has kind a → place_of kind a < places
