-- The module types as one table: each type's frames, every command with its length and its priority, in document 01's order, and how much
-- it has.
use Rattle.std.specs.Prelude.{ℕ, suc, ◌-◌, ◌^◌, List, [], ◌∷◌, ◌++◌, map, Bool, true, false, not, cond, eqb, length}
use Rattle.laws.specs.Tests.{first_for}
use Rattle.kinds.specs.Bits.{bits}
use Rattle.kinds.specs.declared.types.Row.{Row}
use Rattle.kinds.specs.declared.types.Extent.{Extent}

-- the type numbers; 0 is none
abbrev pub no_type : ℕ
no_type = 0x00

abbrev pub vmb1bl : ℕ
vmb1bl = 0x03

abbrev pub vmb8ir : ℕ
vmb8ir = 0x0A

abbrev pub vmb2bl : ℕ
vmb2bl = 0x09

-- priority 0 is high, 3 is low
abbrev pub high : ℕ
high = 0

abbrev pub low : ℕ
low = 3

abbrev pub priorities : List ℕ
priorities = high ∷ low ∷ []

-- the type frame has two shapes, of seven bytes and of five
abbrev pub long_type : ℕ
long_type = 7

abbrev pub short_type : ℕ
short_type = 5

-- a row of a type's list: a command, its length, its priority
pub record Entry : Type 0 where
  pub command : ℕ
  pub listed : Row

abbrev pub row : ℕ → ℕ → ℕ → Entry
row c n p = record { command = c; listed = record { 0 = n; 1 = p } }

-- what every type has
abbrev pub every_type : List Entry
every_type =
    row 0x00 4 high
    ∷ row 0xFE 4 low
    ∷ row 0xCC 7 low
    ∷ row 0xDA 4 low
    ∷ row 0xF0 8 low
    ∷ row 0xF1 8 low
    ∷ row 0xF2 6 low
    ∷ row 0xEF 2 low
    ∷ row 0xFA 2 low
    ∷ row 0xFD 3 low
    ∷ row 0xC9 3 low
    ∷ row 0xCB 1 low
    ∷ row 0xFC 4 low
    ∷ row 0xCA 7 low
    ∷ row 0xD9 1 low
    ∷ []

-- H'0A' only
abbrev pub vmb8ir_only : List Entry
vmb8ir_only =
    row 0xFF long_type low
    ∷ row 0xEB 5 low
    ∷ row 0xF4 4 low
    ∷ row 0xF5 2 low
    ∷ row 0xF6 2 low
    ∷ row 0xF7 2 low
    ∷ row 0xF8 2 low
    ∷ row 0xF9 2 low
    ∷ []

-- H'03' and H'09' only
abbrev pub blind_only : List Entry
blind_only =
    row 0xFF short_type low
    ∷ row 0xEC 8 low
    ∷ row 0x04 2 high
    ∷ row 0x05 5 high
    ∷ row 0x06 5 high
    ∷ []

-- a line of the table: a type's number, its own rows, how many cells and LEDs it has, the bytes of its channels, in the order of their
-- names, and of its blinds, and whether its names live in its memory
pub record Line : Type 0 where
  pub number : ℕ
  pub rows : List Entry
  pub cells : ℕ
  pub channels : List ℕ
  pub blinds : List ℕ
  pub leds : ℕ
  pub in_memory : Bool

abbrev pub line : ℕ → List Entry → ℕ → List ℕ → List ℕ → ℕ → Bool → Line
line number rows cells channels blinds leds in_memory =
    record { number = number; rows = rows; cells = cells; channels = channels; blinds = blinds; leds = leds; in_memory = in_memory }

-- H'03': the blind, the up button and the down button
abbrev pub blind_channels : List ℕ
blind_channels = 0x03 ∷ 0x10 ∷ 0x20 ∷ []

-- H'09': both blinds, then up 1, down 1, up 2 and down 2
abbrev pub two_blind_channels : List ℕ
two_blind_channels = 0x03 ∷ 0x0C ∷ 0x10 ∷ 0x20 ∷ 0x40 ∷ 0x80 ∷ []

-- number, own rows, cells, channels, blinds, LEDs, names in memory
abbrev pub types : List Line
types =
    line vmb1bl blind_only 128 blind_channels (0x03 ∷ []) 0 false
    ∷ line vmb8ir vmb8ir_only 256 bits [] 8 true
    ∷ line vmb2bl blind_only 256 two_blind_channels (0x03 ∷ 0x0C ∷ []) 0 false
    ∷ []

abbrev pub module_types : List ℕ
module_types = map (λ (l : Line). l.number) types

-- what may be handed in
abbrev pub handed_types : List ℕ
handed_types = no_type ∷ module_types

-- the line of a number that is no type
abbrev pub no_line : Line
no_line = line no_type [] 0 [] [] 0 false

unfoldable pub line_of : ℕ → Line
line_of kind = first_for (λ (l : Line). l.number) (λ (l : Line). l) no_line types kind

abbrev pub cells_of : ℕ → ℕ
cells_of kind = (line_of kind).cells

abbrev pub channels_of : ℕ → List ℕ
channels_of kind = (line_of kind).channels

abbrev pub blinds_of : ℕ → List ℕ
blinds_of kind = (line_of kind).blinds

abbrev pub leds_of : ℕ → ℕ
leds_of kind = (line_of kind).leds

abbrev pub names_in_memory : ℕ → Bool
names_in_memory kind = (line_of kind).in_memory

-- the last cell, and the last that a block of four can start at
abbrev pub last_cell : ℕ → ℕ
last_cell kind = cells_of kind - 1

abbrev pub last_start : ℕ → ℕ
last_start kind = cells_of kind - 4

-- how much a type has
unfoldable pub extent_of : ℕ → Extent
extent_of kind =
    record { cells = cells_of kind; names = length (channels_of kind); leds = leds_of kind; blinds = length (blinds_of kind) }

-- the place of a channel among those of its type, and the number of its name, from 1
unfoldable pub position_in : List ℕ → ℕ → ℕ
position_in [] x = 0
position_in (k ∷ ks) x = cond (eqb x k) 0 (suc (position_in ks x))

unfoldable pub name_of : ℕ → ℕ → ℕ
name_of kind channel = suc (position_in (channels_of kind) channel)

-- the number of a blind, from 1
unfoldable pub blind_of : ℕ → ℕ → ℕ
blind_of kind channel = suc (position_in (blinds_of kind) channel)

-- a blind has two bits of a byte, up and down; blind n's up is 1, 4, 16, .., and its down is twice that
abbrev pub up_bit : ℕ → ℕ
up_bit n = 4 ^ (n - 1)

-- the list of a type: its own rows, and what every type has; a number that is no type has none
abbrev pub all_rows : Line → List Entry
all_rows l = l.rows ++ every_type

unfoldable pub rows_of : ℕ → List Entry
rows_of kind = first_for (λ (l : Line). l.number) all_rows [] types kind

-- length 0: no such command
abbrev pub no_row : Row
no_row = record { 0 = 0; 1 = high }

-- the length and the priority of a command in a list
abbrev pub find : List Entry → ℕ → Row
find es c = first_for (λ (e : Entry). e.command) (λ (e : Entry). e.listed) no_row es c

abbrev pub row_for : ℕ → ℕ → Row
row_for kind c = find (rows_of kind) c

abbrev pub is_listed : ℕ → ℕ → Bool
is_listed kind c = not (eqb (row_for kind c).0 0)
