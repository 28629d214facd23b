-- The places of a module, one map for every type: build year, build week, LEDs, blinds, characters of names, cells. Where a type's names live in
-- its memory, a character and its cell are one place. Assumes nothing.
use Rattle.std.specs.Prelude.{ℕ, ◌+◌, ◌-◌, ◌*◌, Bool, cond, ◌&&◌, leb, ltb}
use Rattle.kinds.specs.Types.{extent_of, names_in_memory}

-- how many places there are, and the number that stands for no place
abbrev pub places : ℕ
places = 512

abbrev pub nowhere : ℕ
nowhere = places

-- the most places that one frame speaks of
abbrev pub most_places : ℕ
most_places = 8

-- the build, by bytes of the type frame
abbrev pub year_place : ℕ
year_place = 0

abbrev pub week_place : ℕ
week_place = 1

-- LEDs, blinds, names and the characters of a name are counted from 1, cells by their location
abbrev pub led_place : ℕ → ℕ
led_place n = 2 + (n - 1)

abbrev pub blind_place : ℕ → ℕ
blind_place n = 10 + (n - 1)

-- how many characters a name has
abbrev pub name_length : ℕ
name_length = 16

abbrev pub cell_place : ℕ → ℕ → ℕ
cell_place kind location = 256 + location

-- the first character of the first name: the first cell, for a type whose names live in memory, and else a place before the cells
unfoldable pub first_character : ℕ → ℕ
first_character kind = cond (names_in_memory kind) (cell_place kind 0) 16

abbrev pub character_place : ℕ → ℕ → ℕ → ℕ
character_place kind name i = first_character kind + name_length * (name - 1) + (i - 1)

-- n counts from 1 to most
abbrev pub within : ℕ → ℕ → Bool
within n most = leb 1 n && leb n most

-- the place that is asked for; nowhere, where the type has no such cell, LED or blind
unfoldable pub cell_asked : ℕ → ℕ → ℕ
cell_asked kind location = cond (ltb location (extent_of kind).cells) (cell_place kind location) nowhere

unfoldable pub led_asked : ℕ → ℕ → ℕ
led_asked kind n = cond (within n (extent_of kind).leds) (led_place n) nowhere

unfoldable pub blind_asked : ℕ → ℕ → ℕ
blind_asked kind n = cond (within n (extent_of kind).blinds) (blind_place n) nowhere

-- whether the type has a name of that number
unfoldable pub has_name : ℕ → ℕ → Bool
has_name kind name = within name (extent_of kind).names

-- a row of neighbouring places: the first of them, and how many they are
pub record Row : Type 0 where
  pub start : ℕ
  pub count : ℕ

-- the characters of a name, and all the cells
abbrev pub row_of_name : ℕ → ℕ → Row
row_of_name kind name = record { start = character_place kind name 1; count = name_length }

abbrev pub cell_row : ℕ → Row
cell_row kind = record { start = cell_place kind 0; count = (extent_of kind).cells }
