-- The starred edges of document 01, "Both sides of each edge", and those of later requests: what the definitions give, and what is right. The proof is
-- proofs/Edges.antt.
use Rattle.shape.specs.Answers.{Outcome, Answer}
use Rattle.std.specs.Prelude.{ℕ, ◌≤◌, ◌≡◌, List, [], ◌∷◌, ◌++◌, map, reverse, length, replicate, Ok, Err, Some, None}
use Rattle.laws.specs.Refusals.{bad_identifier, sid0_set, bad_form, bad_priority, bad_type, wrong_priority, bad_field, code_at, nothing_kept, no_such_place, too_short, bad_number}
use Rattle.frame.specs.Identifiers.{priority_of, address_of}
use Rattle.judging.specs.Reading.{reading, Reading}
use Rattle.frame.specs.declared.identifiers.Address.{Address}
use Rattle.frame.specs.declared.messages.Time.TheVariants.{DipSwitch, Permanently, Seconds}
use Rattle.frame.specs.declared.messages.Command.{Command}
use Rattle.frame.specs.declared.messages.Command.TheVariants.{TypeShort, Buttons, BlockTold, NameThree, NameAsked, BlindStatus, BlindStop, BlindUp}
use Rattle.frame.specs.declared.messages.Message.TheVariants.{TypeRequest, Tells}
use Rattle.shape.specs.Layout.{size}
use Rattle.questions.specs.Question.{Question, cell, led, blind, name_row, Reply, value, refusing}
use Rattle.questions.specs.Replies.{reply}
use Rattle.history.specs.Standing.{Event, back, deepest, outcome_of, answered}
use Rattle.history.specs.Demand3.{run_bytes}
use Rattle.history.specs.Cases.{example, ir, bl, bl2, status, told_to, low as heard, high as urged}
use Rattle.groups.specs.Number.{Found, bytes_of, number_at}
use Rattle.recording.specs.Limits.{most_gap}
use Rattle.recording.specs.Record.{Entry, Broken, read_record}

-- what an edge shows: the priority and the address of an identifier; a frame as it is read; answers; what a step back comes to; a name; a number's
-- bytes; a number that was read; what stands at a recording's start
pub data Shown : Type 0 where
  parts : ℕ → Address → Shown
  frame : Reading → Shown
  answers : List Answer → Shown
  step : Outcome → Shown
  name : Reply → Shown
  bytes : List ℕ → Shown
  number : Found → Shown
  entry : Entry → Shown

pub record Row : Type 0 where
  pub given : Shown
  pub right : Shown

-- ---- the rows' kinds
abbrev pub at : Address
at = record { 0 = example }

-- its identifier, of low and of high priority
abbrev pub low_example : ℕ
low_example = 1620

abbrev pub high_example : ℕ
high_example = 84

-- a 9 with the number of its byte
abbrev pub bad_at : ℕ → Reading
bad_at byte = Err (code_at bad_field byte)

-- an identifier is of this priority and address
abbrev pub identifies : ℕ → ℕ → Address → Row
identifies i p a = record { given = parts (priority_of i) (address_of i); right = parts p a }

-- a frame reads so: the type, the identifier, the remote flag, the data
abbrev pub reads : ℕ → ℕ → ℕ → List ℕ → Reading → Row
reads kind i remote s r = record { given = frame (reading kind i remote s); right = frame r }

-- a command at the example module, accepted with this message
abbrev pub accepts : ℕ → ℕ → List ℕ → Command → Row
accepts kind i s m = reads kind i 0 s (Ok (at, Tells m))

-- after these events, from a fresh picture of that depth, the questions are answered so, and a step back comes to that
abbrev pub asked_at : ℕ → List Event → List Question → List Answer → Row
asked_at d es qs xs = record { given = answers (map (λ (q : Question). (told_to d es q []).answer) qs); right = answers xs }

abbrev pub back_at : ℕ → List Event → Outcome → Row
back_at d es o = record { given = step (outcome_of (answered d (reverse es) back)); right = step o }

-- after these frames the questions are answered so
abbrev pub asked : List Event → List Question → List Answer → Row
asked = asked_at deepest

-- after these frames the name of a channel is asked for, into a row of so many zeros
abbrev pub channel : ℕ
channel = 3

abbrev pub zeros : ℕ → List ℕ
zeros n = replicate n 0

abbrev pub named : List Event → ℕ → Reply → Row
named es n r = record { given = name (told_to deepest es (name_row channel) (zeros n)); right = name r }

-- a number's bytes, and the same bytes read
abbrev pub written : ℕ → List ℕ → Row
written v bs = record { given = bytes (bytes_of v); right = bytes bs }

abbrev pub read_as : List ℕ → ℕ → Row
read_as bs v = record { given = number (number_at bs 0 most_gap); right = number (Ok (v, length bs)) }

-- a recording begins so
abbrev pub begins : List ℕ → Entry → Row
begins bs e = record { given = entry (read_record bs 0); right = entry e }

-- a blind module is asked for these names; or for what are none
abbrev pub asks_for : ℕ → Row
asks_for x = accepts 0x03 low_example (0xEF ∷ x ∷ []) (NameAsked x)

abbrev pub asks_none : ℕ → Row
asks_none x = reads 0x03 low_example 0 (0xEF ∷ x ∷ []) (bad_at 2)

-- ---- what they speak of
-- four cells told from a location
abbrev pub block : ℕ → List ℕ
block l = 0xCC ∷ 0x00 ∷ l ∷ 1 ∷ 2 ∷ 3 ∷ 4 ∷ []

abbrev pub block_told : ℕ → Command
block_told l = BlockTold (record { 0 = l }) 1 2 3 4

-- the LEDs 1 to 8 after a frame: 0 off, 1 on, 2 slow, 3 fast, 4 very fast
abbrev pub leds : List ℕ → List ℕ → Row
leds s xs =
    asked (ir ∷ heard s ∷ []) (led 1 ∷ led 2 ∷ led 3 ∷ led 4 ∷ led 5 ∷ led 6 ∷ led 7 ∷ led 8 ∷ []) (map (λ (x : ℕ). Ok (Some x)) xs)

-- the blind goes up for a time
abbrev pub up : ℕ → ℕ → ℕ → List ℕ
up a b c = 0x05 ∷ 0x03 ∷ a ∷ b ∷ c ∷ []

-- a type frame of five bytes; the status of a blind: its time-out, its state, its LEDs
abbrev pub enters : ℕ → ℕ → List ℕ
enters kind timeouts = 0xFF ∷ kind ∷ timeouts ∷ 0x0C ∷ 0x05 ∷ []

abbrev pub blind_is : ℕ → ℕ → ℕ → ℕ → List ℕ
blind_is n timeout state lights = 0xEC ∷ n ∷ timeout ∷ state ∷ lights ∷ 0x00 ∷ 0x00 ∷ 0x00 ∷ []

-- the two-blind module is told that blind 1 goes up and blind 2 down
abbrev pub both_move : List Event
both_move = bl2 ∷ status 0x03 0x01 ∷ status 0x0C 0x08 ∷ []

-- the parts of the channel's name
abbrev pub part_one : Event
part_one = heard (0xF0 ∷ 0x04 ∷ 0x41 ∷ 0x42 ∷ 0x43 ∷ 0x44 ∷ 0x45 ∷ 0x46 ∷ [])

abbrev pub part_two : Event
part_two = heard (0xF1 ∷ 0x04 ∷ 0x47 ∷ 0x48 ∷ 0x49 ∷ 0x4A ∷ 0x4B ∷ 0x4C ∷ [])

abbrev pub part_three : Event
part_three = heard (0xF2 ∷ 0x04 ∷ 0x4D ∷ 0x4E ∷ 0x4F ∷ 0xFF ∷ [])

abbrev pub whole_name : List ℕ
whole_name = 0x41 ∷ 0x42 ∷ 0x43 ∷ 0x44 ∷ 0x45 ∷ 0x46 ∷ 0x47 ∷ 0x48 ∷ 0x49 ∷ 0x4A ∷ 0x4B ∷ 0x4C ∷ 0x4D ∷ 0x4E ∷ 0x4F ∷ 0xFF ∷ []

abbrev pub last_four : List ℕ
last_four = 256 ∷ 256 ∷ 256 ∷ 256 ∷ 256 ∷ 256 ∷ 256 ∷ 256 ∷ 256 ∷ 256 ∷ 256 ∷ 256 ∷ 0x4D ∷ 0x4E ∷ 0x4F ∷ 0xFF ∷ []

-- a cell told, and asked to change
abbrev pub told : Event
told = heard (0xFE ∷ 0x00 ∷ 0x05 ∷ 0x2A ∷ [])

abbrev pub change : Event
change = heard (0xFC ∷ 0x00 ∷ 0x05 ∷ 0x07 ∷ [])

-- the cell of the second character of the channel's name, 16 × (3 − 1) + 2 − 1, told and asked to change
abbrev pub second_told : Event
second_told = heard (0xFE ∷ 0x00 ∷ 0x21 ∷ 0x2A ∷ [])

abbrev pub second_change : Event
second_change = heard (0xFC ∷ 0x00 ∷ 0x21 ∷ 0x07 ∷ [])

-- ---- the table, in the paper's order
abbrev pub edges : List Row
edges =
    -- 1620 is low (3), address H'2A'; 1621: 17; 2048 and 2049: 1; 596: 3
    identifies low_example 3 at
    ∷ reads 0x0A 1621 0 (0xCB ∷ []) (Err sid0_set)
    ∷ reads 0x0A 2048 0 (0xCB ∷ []) (Err bad_identifier)
    ∷ reads 0x0A 2049 0 (0xCB ∷ []) (Err bad_identifier)
    ∷ reads 0x0A 596 0 (0xCB ∷ []) (Err bad_priority)
    -- remote, 1620, no data: type request; remote, 84: 8; remote with one byte: 2
    ∷ reads 0 low_example 1 [] (Ok (at, TypeRequest))
    ∷ reads 0 high_example 1 [] (Err wrong_priority)
    ∷ reads 0 low_example 1 (0x00 ∷ []) (Err bad_form)
    -- EF 03: refused 9 for H'0A', accepted for H'03'
    ∷ reads 0x0A low_example 0 (0xEF ∷ 0x03 ∷ []) (bad_at 2)
    ∷ accepts 0x03 low_example (0xEF ∷ 0x03 ∷ []) (NameAsked 0x03)
    -- EF of H'03' by document 02, W-203: H'33' is accepted, H'01' is still refused; F0 of H'13' is refused
    ∷ asks_none 0x00
    ∷ asks_none 0x01
    ∷ asks_none 0x02
    ∷ asks_for 0x03
    ∷ asks_for 0x10
    ∷ asks_for 0x13
    ∷ asks_for 0x30
    ∷ asks_for 0x33
    ∷ asks_none 0x34
    ∷ asks_none 0x43
    ∷ reads 0x03 low_example 0 (0xF0 ∷ 0x13 ∷ 0 ∷ 0 ∷ 0 ∷ 0 ∷ 0 ∷ 0 ∷ []) (bad_at 2)
    -- CC at H'00FC' accepted, H'00FD' refused 9 for H'0A'; H'007C' and H'007D' likewise for H'03'
    ∷ accepts 0x0A low_example (block 0xFC) (block_told 0xFC)
    ∷ reads 0x0A low_example 0 (block 0xFD) (bad_at 3)
    ∷ accepts 0x03 low_example (block 0x7C) (block_told 0x7C)
    ∷ reads 0x03 low_example 0 (block 0x7D) (bad_at 3)
    -- the byte of a 9, by document 02, W-206: a channel; a high byte and a low one, a low one alone; of two the first; a button's last character; 00
    ∷ reads 0x0A low_example 0 (0xF0 ∷ 0x03 ∷ 0 ∷ 0 ∷ 0 ∷ 0 ∷ 0 ∷ 0 ∷ []) (bad_at 2)
    ∷ reads 0x03 low_example 0 (0xFE ∷ 0x01 ∷ 0x80 ∷ 0x2A ∷ []) (bad_at 2)
    ∷ reads 0x03 low_example 0 (0xFE ∷ 0x00 ∷ 0x80 ∷ 0x2A ∷ []) (bad_at 3)
    ∷ reads 0x03 low_example 0 (0xEC ∷ 0x03 ∷ 0x04 ∷ 0x00 ∷ 0x03 ∷ 0 ∷ 0 ∷ 0 ∷ []) (bad_at 3)
    ∷ reads 0x03 low_example 0 (0xF2 ∷ 0x10 ∷ 0x41 ∷ 0x42 ∷ 0x43 ∷ 0x44 ∷ []) (bad_at 6)
    ∷ reads 0x03 high_example 0 (0x00 ∷ 0x33 ∷ 0x00 ∷ 0x04 ∷ []) (bad_at 4)
    -- F4 01 01 00: LED 1 on, the rest off; F4 00 03 02: LED 1 slow, LED 2 very fast
    ∷ leds (0xF4 ∷ 0x01 ∷ 0x01 ∷ 0x00 ∷ []) (1 ∷ 0 ∷ 0 ∷ 0 ∷ 0 ∷ 0 ∷ 0 ∷ 0 ∷ [])
    ∷ leds (0xF4 ∷ 0x00 ∷ 0x03 ∷ 0x02 ∷ []) (2 ∷ 4 ∷ 0 ∷ 0 ∷ 0 ∷ 0 ∷ 0 ∷ 0 ∷ [])
    -- 05 03 00 00 00: dip switch; 05 03 00 00 01: one second; 05 03 FF FF FF: permanently
    ∷ accepts 0x03 high_example (up 0x00 0x00 0x00) (BlindUp 0x03 DipSwitch)
    ∷ accepts 0x03 high_example (up 0x00 0x00 0x01) (BlindUp 0x03 (Seconds 1))
    ∷ accepts 0x03 high_example (up 0xFF 0xFF 0xFF) (BlindUp 0x03 Permanently)
    -- H'09' by document 02, W-201: FF with time-outs to H'0F', of H'03' to 3; 4 for a number that is no type
    ∷ accepts 0 low_example (enters 0x09 0x0F) (TypeShort 0x09 0x0F 0x0C 0x05)
    ∷ reads 0 low_example 0 (enters 0x09 0x10) (bad_at 3)
    ∷ accepts 0 low_example (enters 0x03 0x03) (TypeShort 0x03 0x03 0x0C 0x05)
    ∷ reads 0 low_example 0 (enters 0x03 0x04) (bad_at 3)
    ∷ reads 0 low_example 0 (enters 0x08 0x00) (Err bad_type)
    -- 04 to blind 2, which H'03' has not; H'0F' is no blind
    ∷ accepts 0x09 high_example (0x04 ∷ 0x0C ∷ []) (BlindStop 0x0C)
    ∷ reads 0x09 high_example 0 (0x04 ∷ 0x0F ∷ []) (bad_at 2)
    ∷ reads 0x03 high_example 0 (0x04 ∷ 0x0C ∷ []) (bad_at 2)
    -- EC: byte 4 is 0, 1, 2 for blind 1 and 0, 4, 8 for blind 2
    ∷ accepts 0x09 low_example (blind_is 0x03 3 2 0x80) (BlindStatus 0x03 3 2 0x80 0 0 0)
    ∷ reads 0x09 low_example 0 (blind_is 0x03 0 4 0) (bad_at 4)
    ∷ accepts 0x09 low_example (blind_is 0x0C 3 8 0x80) (BlindStatus 0x0C 3 8 0x80 0 0 0)
    ∷ reads 0x09 low_example 0 (blind_is 0x0C 0 2 0) (bad_at 4)
    ∷ reads 0x09 low_example 0 (blind_is 0x0C 0 12 0) (bad_at 4)
    -- EF H'FF' asks for all six names, H'04' for none; F2 of up 2 ends with H'FF', of blind 2 with anything; 00 has every bit; CC to H'00FC'
    ∷ accepts 0x09 low_example (0xEF ∷ 0xFF ∷ []) (NameAsked 0xFF)
    ∷ reads 0x09 low_example 0 (0xEF ∷ 0x04 ∷ []) (bad_at 2)
    ∷ reads 0x09 low_example 0 (0xF2 ∷ 0x40 ∷ 0x41 ∷ 0x42 ∷ 0x43 ∷ 0x44 ∷ []) (bad_at 6)
    ∷ accepts 0x09 low_example (0xF2 ∷ 0x0C ∷ 0x41 ∷ 0x42 ∷ 0x43 ∷ 0x44 ∷ []) (NameThree 0x0C 0x41 0x42 0x43 0x44)
    ∷ accepts 0x09 high_example (0x00 ∷ 0xFF ∷ 0xFF ∷ 0xFF ∷ []) (Buttons 0xFF 0xFF 0xFF)
    ∷ accepts 0x09 low_example (block 0xFC) (block_told 0xFC)
    ∷ reads 0x09 low_example 0 (block 0xFD) (bad_at 3)
    -- each blind's state by itself: 1 up, 2 down; 05 to one of them leaves the other; 12 for blind 3, and for blind 2 on H'03'
    ∷ asked both_move (blind 1 ∷ blind 2 ∷ blind 3 ∷ []) (Ok (Some 1) ∷ Ok (Some 2) ∷ Err no_such_place ∷ [])
    ∷ asked (both_move ++ urged (0x05 ∷ 0x0C ∷ 0 ∷ 0 ∷ 0 ∷ []) ∷ []) (blind 1 ∷ blind 2 ∷ []) (Ok (Some 1) ∷ Ok None ∷ [])
    ∷ asked (both_move ++ urged (0x05 ∷ 0x03 ∷ 0 ∷ 0 ∷ 0 ∷ []) ∷ []) (blind 1 ∷ blind 2 ∷ []) (Ok None ∷ Ok (Some 2) ∷ [])
    ∷ asked (bl ∷ []) (blind 1 ∷ blind 2 ∷ []) (Ok None ∷ Err no_such_place ∷ [])
    -- F2, F0, F1 for one channel: 16 heard, and the sixteen values; by W-209 F2 alone: 4 heard; nothing heard: 0
    ∷ named (ir ∷ part_three ∷ part_one ∷ part_two ∷ []) 16 (value 16 whole_name)
    ∷ named (ir ∷ part_three ∷ []) 16 (value 4 last_four)
    ∷ named (ir ∷ []) 16 (value 0 (replicate 16 256))
    -- a row under sixteen: 13; an entry beyond keeps its own
    ∷ named (ir ∷ part_three ∷ []) 15 (refusing too_short (zeros 15))
    ∷ named (ir ∷ part_three ∷ []) 17 (value 4 (last_four ++ zeros 1))
    -- FE, then FC on one cell: unknown
    ∷ asked (ir ∷ told ∷ []) (cell 5 ∷ []) (Ok (Some 0x2A) ∷ [])
    ∷ asked (ir ∷ told ∷ change ∷ []) (cell 5 ∷ []) (Ok None ∷ [])
    -- W-204: FE on a cell of H'0A' tells the character that it is, and FC makes it unknown; a part of a name tells its cells
    ∷ named (ir ∷ second_told ∷ []) 16 (value 1 (256 ∷ 0x2A ∷ replicate 14 256))
    ∷ named (ir ∷ second_told ∷ second_change ∷ []) 16 (value 0 (replicate 16 256))
    ∷ asked (ir ∷ part_three ∷ []) (cell 43 ∷ cell 44 ∷ cell 47 ∷ cell 48 ∷ []) (Ok None ∷ Ok (Some 0x4D) ∷ Ok (Some 0xFF) ∷ Ok None ∷ [])
    -- depth 0: the frame stands, and no step is granted (11); depth 1: one is granted, and no second
    ∷ back_at 0 (ir ∷ told ∷ []) (Err nothing_kept)
    ∷ asked_at 0 (ir ∷ told ∷ back ∷ []) (cell 5 ∷ []) (Ok (Some 0x2A) ∷ [])
    ∷ back_at 1 (ir ∷ told ∷ []) (Ok tt)
    ∷ asked_at 1 (ir ∷ told ∷ back ∷ []) (cell 5 ∷ []) (Ok None ∷ [])
    ∷ back_at 1 (ir ∷ told ∷ back ∷ []) (Err nothing_kept)
    -- 3240 is A8 19; 127 is 7F; 128 is 80 01; 80 00: 16
    ∷ written 3240 (0xA8 ∷ 0x19 ∷ [])
    ∷ read_as (0xA8 ∷ 0x19 ∷ []) 3240
    ∷ written 127 (0x7F ∷ [])
    ∷ read_as (0x7F ∷ []) 127
    ∷ written 128 (0x80 ∷ 0x01 ∷ [])
    ∷ read_as (0x80 ∷ 0x01 ∷ []) 128
    ∷ begins (0x80 ∷ 0x00 ∷ []) (Broken bad_number 1)
    -- W-207: a gap up to 34359738367, FF FF FF FF 7F; 80 80 80 80 00, and a fifth group that says that a sixth follows: 16
    ∷ written 268435456 (0x80 ∷ 0x80 ∷ 0x80 ∷ 0x80 ∷ 0x01 ∷ [])
    ∷ written 34359738367 (0xFF ∷ 0xFF ∷ 0xFF ∷ 0xFF ∷ 0x7F ∷ [])
    ∷ read_as (0xFF ∷ 0xFF ∷ 0xFF ∷ 0xFF ∷ 0x7F ∷ []) 34359738367
    ∷ begins (0x80 ∷ 0x80 ∷ 0x80 ∷ 0x80 ∷ 0x00 ∷ []) (Broken bad_number 4)
    ∷ begins (0xFF ∷ 0xFF ∷ 0xFF ∷ 0xFF ∷ 0xFF ∷ 0x00 ∷ []) (Broken bad_number 4)
    ∷ []

-- every edge is right
abbrev pub EdgesHold : Type 0
EdgesHold = map (λ (r : Row). r.given) edges ≡ map (λ (r : Row). r.right) edges

-- and what the frames tell there is what the picture's bytes answer, from any fresh picture of any depth
abbrev pub EdgesOnBytes : Type 0
EdgesOnBytes =
    (b : List ℕ) → size ≤ length b → (d : ℕ) → d ≤ deepest → (es : List Event) (q : Question) (out : List ℕ)
    → reply (run_bytes b d (reverse es)) example q out ≡ told_to d es q out
