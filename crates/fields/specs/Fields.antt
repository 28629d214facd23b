-- Which fields are allowed, by the type: the one rule behind refusal 9, for the reader and for the writer. Each definition gives the
-- number of the first data byte, from the left, that no allowed choice of the later bytes can repair; 0 where every field is allowed.
use Rattle.std.specs.Prelude.{ℕ, ◌+◌, ◌*◌, ◌/◌, ◌%◌, ◌^◌, List, [], ◌∷◌, ◌++◌, map, Bool, true, false, not, ◌&&◌, ◌||◌, cond, eqb, leb, ltb, length}
use Rattle.laws.specs.Refusals.{bad_field, code_at}
use Rattle.laws.specs.Tests.{among, unless}
use Rattle.kinds.specs.Bits.{bits, one_bit}
use Rattle.kinds.specs.Types.{channels_of, blinds_of, last_cell, last_start, blind_of, up_bit}
use Rattle.frame.specs.declared.messages.Location.{Location}
use Rattle.frame.specs.declared.messages.Time.{Time}
use Rattle.frame.specs.declared.messages.Time.TheVariants.{DipSwitch, Permanently, Seconds}
use Rattle.frame.specs.declared.messages.Command.{Command}
use Rattle.frame.specs.declared.messages.Command.TheVariants.{TypeLong, TypeShort, Buttons, CellTold, BlockTold, CellAsked, BlockAsked, DumpAsked, CellSet, BlockSet, Errors, ErrorsAsked, NameOne, NameTwo, NameThree, NameAsked, StatusAsked, InputStatus, LedsAll, Leds, BlindStatus, BlindStop, BlindUp, BlindDown}

-- a test that binds the types with blinds alone
abbrev pub of_blinds : ℕ → Bool → Bool
of_blinds kind test = eqb (length (blinds_of kind)) 0 || test

abbrev pub is_blind : ℕ → ℕ → Bool
is_blind kind channel = among channel (blinds_of kind)

-- bytes 2 and 3 are at most the last
abbrev pub location_fault : ℕ → Location → ℕ
location_fault last l = unless (leb (l.0 / 256) (last / 256)) 2 (unless (leb l.0 last) 3 0)

-- FE, FD, FC: a cell of the type
abbrev pub cell_fault : ℕ → Location → ℕ
cell_fault kind l = location_fault (last_cell kind) l

-- CC, C9, CA: four cells of the type
abbrev pub block_fault : ℕ → Location → ℕ
block_fault kind l = location_fault (last_start kind) l

-- F0, F1, F2: byte 2 is a channel of the type
abbrev pub channel_allowed : ℕ → ℕ → Bool
channel_allowed kind x = among x (channels_of kind)

abbrev pub channel_fault : ℕ → ℕ → ℕ
channel_fault kind channel = unless (channel_allowed kind channel) 2 0

-- F2 of a button of a type with blinds: byte 6 is H'FF'
abbrev pub last_part_fault : ℕ → ℕ → ℕ → ℕ
last_part_fault kind channel last =
    unless (channel_allowed kind channel) 2 (unless (of_blinds kind (is_blind kind channel || eqb last 0xFF)) 6 0)

-- FA of a type with blinds: byte 2 is one of them
abbrev pub status_asked_fault : ℕ → ℕ → ℕ
status_asked_fault kind channel = unless (of_blinds kind (is_blind kind channel)) 2 0

-- 04: byte 2 is a blind
abbrev pub stop_fault : ℕ → ℕ → ℕ
stop_fault kind channel = unless (is_blind kind channel) 2 0

-- a message of 0 seconds, or of more than 16777214, is not legal
abbrev pub time_allowed : Time → Bool
time_allowed DipSwitch = true
time_allowed Permanently = true
time_allowed (Seconds n) = leb 1 n && leb n 16777214

-- 05, 06: byte 2 is a blind; the time begins at byte 3
abbrev pub timed_fault : ℕ → ℕ → Time → ℕ
timed_fault kind channel t = unless (is_blind kind channel) 2 (unless (time_allowed t) 3 0)

-- FF of five bytes: byte 3 has two bits for each blind of the type that stands in byte 2, and zeros above
abbrev pub timeouts_allowed : ℕ → ℕ → Bool
timeouts_allowed kind timeouts = ltb timeouts (4 ^ length (blinds_of kind))

abbrev pub type_short_fault : ℕ → ℕ → ℕ
type_short_fault kind timeouts = unless (timeouts_allowed kind timeouts) 3 0

-- EC's byte 4: the blind is off, goes up, goes down
abbrev pub blind_states : ℕ → List ℕ
blind_states n = 0 ∷ up_bit n ∷ 2 * up_bit n ∷ []

-- EC's byte 3 is 0 to 3, and byte 5 is 0 or has one bit
abbrev pub timeout_allowed : ℕ → Bool
timeout_allowed timeout = leb timeout 3

abbrev pub led_allowed : ℕ → Bool
led_allowed led = eqb led 0 || one_bit led

-- EC: byte 2 is a blind, and byte 4 is one of its states
abbrev pub blind_status_fault : ℕ → ℕ → ℕ → ℕ → ℕ → ℕ
blind_status_fault kind channel timeout state led =
    unless (is_blind kind channel) 2
    (unless (timeout_allowed timeout) 3 (unless (among state (blind_states (blind_of kind channel))) 4 (unless (led_allowed led) 5 0)))

-- a byte has the bit, which is one of `bits`; one of the bytes has it
abbrev pub has_bit : ℕ → ℕ → Bool
has_bit x bit = eqb (x / bit % 2) 1

abbrev pub one_has_bit : List ℕ → ℕ → Bool
one_has_bit [] bit = false
one_has_bit (x ∷ xs) bit = has_bit x bit || one_has_bit xs bit

-- the byte that has, of these bits, each that one of the bytes has
abbrev pub together : List ℕ → List ℕ → ℕ
together [] xs = 0
together (bit ∷ rest) xs = cond (one_has_bit xs bit) bit 0 + together rest xs

-- every choice of some of the bytes, one at the least
abbrev pub choices : List ℕ → List (List ℕ)
choices [] = []
choices (x ∷ xs) = (x ∷ []) ∷ map (λ (chosen : List ℕ). x ∷ chosen) (choices xs) ++ choices xs

-- what such choices are, put together bit by bit
abbrev pub unions : List ℕ → List ℕ
unions xs = map (together bits) (choices xs)

-- EF: byte 2 is a channel of the type or, for a type with blinds, any non-empty union of its channels
unfoldable pub asked_allowed : ℕ → ℕ → Bool
asked_allowed kind x = cond (eqb (length (blinds_of kind)) 0) (channel_allowed kind x) (among x (unions (channels_of kind)))

abbrev pub name_asked_fault : ℕ → ℕ → ℕ
name_asked_fault kind x = unless (asked_allowed kind x) 2 0

-- of these bits of a byte, those that belong to none of the channels are clear
abbrev pub clear_bits : List ℕ → List ℕ → ℕ → Bool
clear_bits channels [] x = true
clear_bits channels (bit ∷ rest) x = (one_has_bit channels bit || not (has_bit x bit)) && clear_bits channels rest x

-- 00: in bytes 2 to 4 every bit that belongs to no channel of the type is clear: bits 7, 6, 3 and 2 for H'03', none for H'0A' and H'09'
unfoldable pub buttons_allowed : ℕ → ℕ → Bool
buttons_allowed kind x = clear_bits (channels_of kind) bits x

abbrev pub buttons_fault : ℕ → ℕ → ℕ → ℕ → ℕ
buttons_fault kind a b c =
    unless (buttons_allowed kind a) 2 (unless (buttons_allowed kind b) 3 (unless (buttons_allowed kind c) 4 0))

-- all other bytes are free
abbrev pub fault : ℕ → Command → ℕ
fault kind (TypeLong k a b c year week) = 0
fault kind (TypeShort k a year week) = type_short_fault k a
fault kind (Buttons a b c) = buttons_fault kind a b c
fault kind (CellTold l v) = cell_fault kind l
fault kind (BlockTold l a b c d) = block_fault kind l
fault kind (CellAsked l) = cell_fault kind l
fault kind (BlockAsked l) = block_fault kind l
fault kind DumpAsked = 0
fault kind (CellSet l v) = cell_fault kind l
fault kind (BlockSet l a b c d) = block_fault kind l
fault kind (Errors a b c) = 0
fault kind ErrorsAsked = 0
fault kind (NameOne n a b c d e f) = channel_fault kind n
fault kind (NameTwo n a b c d e f) = channel_fault kind n
fault kind (NameThree n a b c d) = last_part_fault kind n d
fault kind (NameAsked n) = name_asked_fault kind n
fault kind (StatusAsked n) = status_asked_fault kind n
fault kind (InputStatus a b c d) = 0
fault kind (LedsAll a b c) = 0
fault kind (Leds g x) = 0
fault kind (BlindStatus n a b c d e f) = blind_status_fault kind n a b c
fault kind (BlindStop n) = stop_fault kind n
fault kind (BlindUp n t) = timed_fault kind n t
fault kind (BlindDown n t) = timed_fault kind n t

-- 9, with the number of the byte at fault, where some byte is
abbrev pub field_refusal : ℕ → ℕ
field_refusal fault = unless (eqb fault 0) (code_at bad_field fault) 0
