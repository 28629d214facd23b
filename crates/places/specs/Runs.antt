-- What a message says: one run of at most eight neighbouring places, and of each of them nothing, its value, or that a change is asked for.
-- Assumes nothing.
use Rattle.judging.specs.Reading.{Reading}
use Rattle.std.specs.Prelude.{ℕ, suc, ◌/◌, ◌%◌, ◌^◌, cond, List, [], ◌∷◌, map, eqb, replicate, Ok, Err}
use Rattle.laws.specs.Tab.{tab}
use Rattle.kinds.specs.Types.{name_of, blind_of, up_bit}
use Rattle.frame.specs.Bytes.{data_of, bytes_of}
use Rattle.frame.specs.Messages.{decode}
use Rattle.frame.specs.declared.messages.Glow.{Glow}
use Rattle.frame.specs.declared.messages.Glow.TheVariants.{Off, On, Slow, Fast, VeryFast}
use Rattle.frame.specs.declared.messages.Command.{Command}
use Rattle.frame.specs.declared.messages.Command.TheVariants.{TypeLong, TypeShort, Buttons, CellTold, BlockTold, CellAsked, BlockAsked, DumpAsked, CellSet, BlockSet, Errors, ErrorsAsked, NameOne, NameTwo, NameThree, NameAsked, StatusAsked, InputStatus, LedsAll, Leds, BlindStatus, BlindStop, BlindUp, BlindDown}
use Rattle.frame.specs.declared.messages.Message.{Message}
use Rattle.frame.specs.declared.messages.Message.TheVariants.{TypeRequest, Tells}
use Rattle.places.specs.Places.{year_place, led_place, blind_place, character_place, cell_place}

-- what is said of a place
pub data Saying : Type 0 where
  silent : Saying
  asks : Saying
  tells : ℕ → Saying

-- what is said of neighbouring places, the first of which is `start`
pub record Run : Type 0 where
  pub start : ℕ
  pub says : List Saying

-- what the run says of the place p
unfoldable pub said_from : ℕ → List Saying → ℕ → Saying
said_from start [] p = silent
said_from start (x ∷ xs) p = cond (eqb start p) x (said_from (suc start) xs p)

abbrev pub said : Run → ℕ → Saying
said r p = said_from r.start r.says p

-- runs: of no place; all of whose places are told; n places for which a change is asked
abbrev pub run : ℕ → List Saying → Run
run start says = record { start = start; says = says }

abbrev pub no_run : Run
no_run = run 0 []

abbrev pub telling : ℕ → List ℕ → Run
telling start values = run start (map tells values)

abbrev pub asking : ℕ → ℕ → Run
asking start n = run start (replicate n asks)

-- the build
abbrev pub build_told : ℕ → ℕ → Run
build_told year week = telling year_place (year ∷ week ∷ [])

-- bit i of a byte, counted from 0
abbrev pub bit : ℕ → ℕ → ℕ
bit x i = x / 2 ^ i % 2

-- the numbers of the LED states
abbrev pub glow_number : Glow → ℕ
glow_number Off = 0
glow_number On = 1
glow_number Slow = 2
glow_number Fast = 3
glow_number VeryFast = 4

-- on if the on bit is set; else very fast if both others are; else slow, fast or off
unfoldable pub glow_by : ℕ → ℕ → ℕ → Glow
glow_by on slow fast = cond (eqb on 1) On (cond (eqb slow 1) (cond (eqb fast 1) VeryFast Slow) (cond (eqb fast 1) Fast Off))

-- LED i + 1, by the three bytes; all eight of them
abbrev pub led_by : ℕ → ℕ → ℕ → ℕ → ℕ
led_by on slow fast i = glow_number (glow_by (bit on i) (bit slow i) (bit fast i))

abbrev pub all_leds : ℕ → ℕ → ℕ → Run
all_leds on slow fast = telling (led_place 1) (tab 8 (led_by on slow fast))

-- the LEDs whose bit of the mask is a one
abbrev pub led_if : ℕ → ℕ → ℕ → Saying
led_if mask value i = cond (eqb (bit mask i) 1) (tells value) silent

abbrev pub some_leds : ℕ → ℕ → Run
some_leds mask value = run (led_place 1) (tab 8 (led_if mask value))

-- the characters of a name, from character i
abbrev pub characters : ℕ → ℕ → ℕ → List ℕ → Run
characters kind channel i values = telling (character_place kind (name_of kind channel) i) values

-- the place of the blind that a byte stands for, and what EC's byte 4 says of it: 0 off, 1 up, 2 down
abbrev pub named_blind : ℕ → ℕ → ℕ
named_blind kind channel = blind_place (blind_of kind channel)

abbrev pub blind_state : ℕ → ℕ → ℕ → ℕ
blind_state kind channel state = state / up_bit (blind_of kind channel)

-- What a frame means: a refusal; a run of places that it names; or an entry of a type, with the run that holds the build.
pub data Meaning : Type 0 where
  refuses : ℕ → Meaning
  names : Run → Meaning
  enters : ℕ → Run → Meaning

-- the table: what a command means, at a module of the type
unfoldable pub meaning_of : ℕ → Command → Meaning
meaning_of kind (TypeLong k a b c year week) = enters k (build_told year week)
meaning_of kind (TypeShort k a year week) = enters k (build_told year week)
meaning_of kind (CellTold l v) = names (telling (cell_place kind l.0) (v ∷ []))
meaning_of kind (BlockTold l a b c d) = names (telling (cell_place kind l.0) (a ∷ b ∷ c ∷ d ∷ []))
meaning_of kind (CellSet l v) = names (asking (cell_place kind l.0) 1)
meaning_of kind (BlockSet l a b c d) = names (asking (cell_place kind l.0) 4)
meaning_of kind (NameOne n a b c d e f) = names (characters kind n 1 (a ∷ b ∷ c ∷ d ∷ e ∷ f ∷ []))
meaning_of kind (NameTwo n a b c d e f) = names (characters kind n 7 (a ∷ b ∷ c ∷ d ∷ e ∷ f ∷ []))
meaning_of kind (NameThree n a b c d) = names (characters kind n 13 (a ∷ b ∷ c ∷ d ∷ []))
meaning_of kind (Leds g mask) = names (some_leds mask (glow_number g))
meaning_of kind (LedsAll on slow fast) = names (all_leds on slow fast)
meaning_of kind (InputStatus a on slow fast) = names (all_leds on slow fast)
meaning_of kind (BlindStatus n a state c d e f) = names (telling (named_blind kind n) (blind_state kind n state ∷ []))
meaning_of kind (BlindStop n) = names (asking (named_blind kind n) 1)
meaning_of kind (BlindUp n t) = names (asking (named_blind kind n) 1)
meaning_of kind (BlindDown n t) = names (asking (named_blind kind n) 1)
meaning_of kind (Buttons a b c) = names no_run
meaning_of kind (CellAsked l) = names no_run
meaning_of kind (BlockAsked l) = names no_run
meaning_of kind DumpAsked = names no_run
meaning_of kind (Errors a b c) = names no_run
meaning_of kind ErrorsAsked = names no_run
meaning_of kind (NameAsked n) = names no_run
meaning_of kind (StatusAsked n) = names no_run

-- the run that it speaks of
abbrev pub run_in : Meaning → Run
run_in (refuses n) = no_run
run_in (names r) = r
run_in (enters k r) = r

-- the type request names no place
unfoldable pub meant : ℕ → Message → Meaning
meant kind TypeRequest = names no_run
meant kind (Tells m) = meaning_of kind m

-- what the reader gave
unfoldable pub read_as : ℕ → Reading → Meaning
read_as kind (Err n) = refuses n
read_as kind (Ok (a, m)) = meant kind m

-- the command that the data bytes of a frame are
abbrev pub command_of : List ℕ → Command
command_of s = decode (bytes_of (data_of s))
