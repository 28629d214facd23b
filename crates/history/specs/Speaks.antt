-- What a message says, as document 01 has it: of each place that it names, and silence of every other. The proof is proofs/Speaks.antt.
use Rattle.std.specs.Prelude.{ℕ, ◌+◌, ◌/◌, ◌%◌, ◌^◌, ◌<◌, ◌≤◌, ◌≡◌, Bool, cond, ◌&&◌, ◌≢◌, ◌⊎◌, List, [], ◌∷◌, map, eqb, get_or}
use Rattle.frame.specs.declared.messages.Glow.{Glow}
use Rattle.frame.specs.declared.messages.Glow.TheVariants.{Off, On, Slow, Fast, VeryFast}
use Rattle.frame.specs.declared.messages.Command.{Command}
use Rattle.frame.specs.declared.messages.Command.TheVariants.{TypeLong, TypeShort, Buttons, CellTold, BlockTold, CellAsked, BlockAsked, DumpAsked, CellSet, BlockSet, Errors, ErrorsAsked, NameOne, NameTwo, NameThree, NameAsked, StatusAsked, InputStatus, LedsAll, Leds, BlindStatus, BlindStop, BlindUp, BlindDown}
use Rattle.frame.specs.declared.messages.Message.{Message}
use Rattle.frame.specs.declared.messages.Message.TheVariants.{TypeRequest, Tells}
use Rattle.kinds.specs.Types.{name_of, blind_of}
use Rattle.places.specs.Places.{year_place, week_place, led_place, blind_place, character_place, cell_place}
use Rattle.places.specs.Runs.{Saying, silent, asks, tells, Run, said, blind_state, Meaning, refuses, names, enters, meant}

-- ---- what is said
-- a row of values, told one after the other; a change asked for, of each
abbrev pub tells_of : List ℕ → ℕ → Saying
tells_of values i = tells (get_or values i 0)

abbrev pub asks_all : ℕ → Saying
asks_all i = asks

-- bit i of a byte, counted from 0, is a one
abbrev pub is_one : ℕ → ℕ → Bool
is_one byte i = eqb (byte / 2 ^ i % 2) 1

-- the numbers of the LED states
abbrev pub led_number : Glow → ℕ
led_number Off = 0
led_number On = 1
led_number Slow = 2
led_number Fast = 3
led_number VeryFast = 4

-- on if the on bit is set; else very fast if both others are; else slow, fast or off
abbrev pub led_state : Bool → Bool → Bool → Glow
led_state on slow fast = cond on On (cond (slow && fast) VeryFast (cond slow Slow (cond fast Fast Off)))

-- LED i + 1: by the three bytes; and by a mask, if it has a one there
abbrev pub tells_led : ℕ → ℕ → ℕ → ℕ → Saying
tells_led on slow fast i = tells (led_number (led_state (is_one on i) (is_one slow i) (is_one fast i)))

abbrev pub tells_if : Glow → ℕ → ℕ → Saying
tells_if g mask i = cond (is_one mask i) (tells (led_number g)) silent

-- ---- of which places
-- of the i-th of the n places from `start` on, counted from 0, what `of i` is; of every other place nothing
pub record Just (start n : ℕ) (of : ℕ → Saying) (r : Run) : Type 0 where
  pub there : (i : ℕ) → i < n → said r (start + i) ≡ of i
  pub elsewhere : (p : ℕ) → (p < start) ⊎ (start + n ≤ p) → said r p ≡ silent

-- of no place anything
abbrev pub Nothing : Run → Type 0
Nothing r = (p : ℕ) → said r p ≡ silent

-- the build, and of every other place nothing
pub record Build (year week : ℕ) (r : Run) : Type 0 where
  pub year_told : said r year_place ≡ tells year
  pub week_told : said r week_place ≡ tells week
  pub elsewhere : (p : ℕ) → p ≢ year_place → p ≢ week_place → said r p ≡ silent

-- ---- by a message that enters no module; by the entry of the type k
abbrev pub Says : (Run → Type 0) → Meaning → Type 0
Says run (refuses n) = ⊥
Says run (names r) = run r
Says run (enters k r) = ⊥

abbrev pub Enters : ℕ → (Run → Type 0) → Meaning → Type 0
Enters k run (refuses n) = ⊥
Enters k run (names r) = ⊥
Enters k run (enters t r) = (t ≡ k) × run r

-- no entry, and just these places
abbrev pub Names : ℕ → ℕ → (ℕ → Saying) → Meaning → Type 0
Names start n of = Says (Just start n of)

-- ---- the number of the name that a channel's byte stands for: of H'0A' by its bit; of H'03' the blind, the up button, the down button; of H'09'
-- both blinds, up 1, down 1, up 2, down 2
pub record NamesNumbered : Type 0 where
  pub channels : map (name_of 0x0A) (0x01 ∷ 0x02 ∷ 0x04 ∷ 0x08 ∷ 0x10 ∷ 0x20 ∷ 0x40 ∷ 0x80 ∷ []) ≡ 1 ∷ 2 ∷ 3 ∷ 4 ∷ 5 ∷ 6 ∷ 7 ∷ 8 ∷ []
  pub blind_up_down : map (name_of 0x03) (0x03 ∷ 0x10 ∷ 0x20 ∷ []) ≡ 1 ∷ 2 ∷ 3 ∷ []
  pub two_blinds : map (name_of 0x09) (0x03 ∷ 0x0C ∷ 0x10 ∷ 0x20 ∷ 0x40 ∷ 0x80 ∷ []) ≡ 1 ∷ 2 ∷ 3 ∷ 4 ∷ 5 ∷ 6 ∷ []

-- the number of the blind that a byte stands for; and its state by EC's byte 4: off, up, down
pub record BlindsNumbered : Type 0 where
  pub blind : map (blind_of 0x03) (0x03 ∷ []) ≡ 1 ∷ []
  pub blinds : map (blind_of 0x09) (0x03 ∷ 0x0C ∷ []) ≡ 1 ∷ 2 ∷ []
  pub states : map (blind_state 0x03 0x03) (0 ∷ 1 ∷ 2 ∷ []) ≡ 0 ∷ 1 ∷ 2 ∷ []
  pub states_1 : map (blind_state 0x09 0x03) (0 ∷ 1 ∷ 2 ∷ []) ≡ 0 ∷ 1 ∷ 2 ∷ []
  pub states_2 : map (blind_state 0x09 0x0C) (0 ∷ 4 ∷ 8 ∷ []) ≡ 0 ∷ 1 ∷ 2 ∷ []

-- ---- the table: what each command says at a module of the type `kind`
unfoldable pub Spoken : ℕ → Command → Meaning → Type 0
-- FE tells one cell and CC four; FC and CA ask for a change of them
Spoken kind (CellTold l v) = Names (cell_place kind l.0) 1 (tells_of (v ∷ []))
Spoken kind (BlockTold l a b c d) = Names (cell_place kind l.0) 4 (tells_of (a ∷ b ∷ c ∷ d ∷ []))
Spoken kind (CellSet l v) = Names (cell_place kind l.0) 1 asks_all
Spoken kind (BlockSet l a b c d) = Names (cell_place kind l.0) 4 asks_all
-- F0, F1, F2 tell characters 1 to 6, 7 to 12, 13 to 16 of the name
Spoken kind (NameOne n a b c d e f) = Names (character_place kind (name_of kind n) 1) 6 (tells_of (a ∷ b ∷ c ∷ d ∷ e ∷ f ∷ []))
Spoken kind (NameTwo n a b c d e f) = Names (character_place kind (name_of kind n) 7) 6 (tells_of (a ∷ b ∷ c ∷ d ∷ e ∷ f ∷ []))
Spoken kind (NameThree n a b c d) = Names (character_place kind (name_of kind n) 13) 4 (tells_of (a ∷ b ∷ c ∷ d ∷ []))
-- F5 to F9 name the LEDs with a one; F4 and EB name all eight
Spoken kind (Leds g mask) = Names (led_place 1) 8 (tells_if g mask)
Spoken kind (LedsAll on slow fast) = Names (led_place 1) 8 (tells_led on slow fast)
Spoken kind (InputStatus x on slow fast) = Names (led_place 1) 8 (tells_led on slow fast)
-- EC tells the state of the blind that it names; 04, 05 and 06 make the state of theirs unknown, and no other's
Spoken kind (BlindStatus n a state c d e f) = Names (blind_place (blind_of kind n)) 1 (tells_of (blind_state kind n state ∷ []))
Spoken kind (BlindStop n) = Names (blind_place (blind_of kind n)) 1 asks_all
Spoken kind (BlindUp n t) = Names (blind_place (blind_of kind n)) 1 asks_all
Spoken kind (BlindDown n t) = Names (blind_place (blind_of kind n)) 1 asks_all
-- FF enters the type inside it and tells the build: its last two bytes
Spoken kind (TypeLong k a b c year week) = Enters k (Build year week)
Spoken kind (TypeShort k a year week) = Enters k (Build year week)
-- 00, FD, C9, CB, DA, D9, EF and FA name no place
Spoken kind (Buttons a b c) = Says Nothing
Spoken kind (CellAsked l) = Says Nothing
Spoken kind (BlockAsked l) = Says Nothing
Spoken kind DumpAsked = Says Nothing
Spoken kind (Errors a b c) = Says Nothing
Spoken kind ErrorsAsked = Says Nothing
Spoken kind (NameAsked n) = Says Nothing
Spoken kind (StatusAsked n) = Says Nothing

-- nor does the type request
abbrev pub SpokenBy : ℕ → Message → Meaning → Type 0
SpokenBy kind TypeRequest = Says Nothing
SpokenBy kind (Tells m) = Spoken kind m

-- every message means what the table says
abbrev pub SpeaksOf : Type 0
SpeaksOf = (kind : ℕ) (m : Message) → SpokenBy kind m (meant kind m)
