-- Worked cases on the picture: frames heard from one module, in order, and the answer to a question after them. The proof is proofs/Worked.antt.
use Rattle.std.specs.Prelude.{ℕ, ◌≤◌, List, [], ◌∷◌, map, reverse, ◌≡◌, length, Some, None, Ok, Err}
use Rattle.laws.specs.Refusals.{no_such_place}
use Rattle.shape.specs.Answers.{Answer}
use Rattle.shape.specs.Layout.{size}
use Rattle.questions.specs.Question.{Question, Reply, build_year, cell, led, blind}
use Rattle.questions.specs.Replies.{reply}
use Rattle.history.specs.Standing.{Event, hear, back, deepest, standing, standing_type, latest}
use Rattle.history.specs.Asked.{told_reply}
use Rattle.history.specs.Demand3.{run_bytes}

-- the address of the module; frames of low and of high priority from it
abbrev pub example : ℕ
example = 0x2A

abbrev pub low : List ℕ → Event
low bytes = hear (record { identifier = 1620; remote = 0; bytes = bytes })

abbrev pub high : List ℕ → Event
high bytes = hear (record { identifier = 84; remote = 0; bytes = bytes })

-- a VMB8IR, a VMB1BL and a VMB2BL enter
abbrev pub ir : Event
ir = low (0xFF ∷ 0x0A ∷ 0x12 ∷ 0x34 ∷ 0x01 ∷ 0x0C ∷ 0x05 ∷ [])

abbrev pub bl : Event
bl = low (0xFF ∷ 0x03 ∷ 0x00 ∷ 0x0C ∷ 0x05 ∷ [])

abbrev pub bl2 : Event
bl2 = low (0xFF ∷ 0x09 ∷ 0x0F ∷ 0x0C ∷ 0x05 ∷ [])

-- the blind of that byte is in the state of that byte
abbrev pub status : ℕ → ℕ → Event
status channel state = low (0xEC ∷ channel ∷ 0x00 ∷ state ∷ 0x00 ∷ 0x00 ∷ 0x00 ∷ 0x00 ∷ [])

-- what the standing frames tell after the events, from a fresh picture of the depth d
abbrev pub told_to : ℕ → List Event → Question → List ℕ → Reply
told_to d es q out = told_reply (standing_type (standing d (reverse es)) example) (latest (standing d (reverse es)) example) q out

pub record Case : Type 0 where
  pub events : List Event
  pub asked : Question
  pub answer : Answer

abbrev pub case : List Event → Question → Answer → Case
case es q x = record { events = es; asked = q; answer = x }

abbrev pub ask : Case → Answer
ask c = (told_to deepest c.events c.asked []).answer

abbrev pub cases : List Case
cases =
    case (ir ∷ []) build_year (Ok (Some 0x0C))
    -- an unread cell is neither 0 nor H'FF'
    ∷ case (ir ∷ []) (cell 5) (Ok None)
    -- the LEDs with a one, and no other
    ∷ case (ir ∷ low (0xF8 ∷ 0x02 ∷ []) ∷ []) (led 2) (Ok (Some 3))
    ∷ case (ir ∷ low (0xF8 ∷ 0x02 ∷ []) ∷ []) (led 1) (Ok None)
    -- four cells told; a step back over them
    ∷ case (ir ∷ low (0xCC ∷ 0x00 ∷ 0x80 ∷ 0x05 ∷ 0x2A ∷ 0x03 ∷ 0x4C ∷ []) ∷ []) (cell 0x83) (Ok (Some 0x4C))
    ∷ case (ir ∷ low (0xCC ∷ 0x00 ∷ 0x80 ∷ 0x05 ∷ 0x2A ∷ 0x03 ∷ 0x4C ∷ []) ∷ back ∷ []) (cell 0x83) (Ok None)
    -- the blind's state told, and unknown once it is moved
    ∷ case (bl ∷ status 0x03 0x02 ∷ []) (blind 1) (Ok (Some 2))
    ∷ case (bl ∷ status 0x03 0x02 ∷ high (0x04 ∷ 0x03 ∷ []) ∷ []) (blind 1) (Ok None)
    -- two blinds, each by itself
    ∷ case (bl2 ∷ status 0x03 0x01 ∷ []) (blind 2) (Ok None)
    ∷ case (bl2 ∷ status 0x03 0x01 ∷ status 0x0C 0x08 ∷ []) (blind 1) (Ok (Some 1))
    ∷ case (bl2 ∷ status 0x03 0x01 ∷ status 0x0C 0x08 ∷ []) (blind 2) (Ok (Some 2))
    ∷ case (bl2 ∷ status 0x03 0x01 ∷ status 0x0C 0x08 ∷ high (0x04 ∷ 0x0C ∷ []) ∷ []) (blind 1) (Ok (Some 1))
    ∷ case (bl2 ∷ status 0x03 0x01 ∷ status 0x0C 0x08 ∷ high (0x04 ∷ 0x0C ∷ []) ∷ []) (blind 2) (Ok None)
    ∷ case (bl2 ∷ []) (blind 3) (Err no_such_place)
    ∷ case (bl ∷ []) (blind 2) (Err no_such_place)
    -- an exchanged module keeps nothing
    ∷ case (ir ∷ low (0xFE ∷ 0x00 ∷ 0x05 ∷ 0x2A ∷ []) ∷ bl ∷ []) (cell 5) (Ok None)
    ∷ case (bl ∷ status 0x03 0x01 ∷ bl2 ∷ []) (blind 1) (Ok None)
    ∷ case (ir ∷ bl ∷ []) (cell 128) (Err no_such_place)
    ∷ case (ir ∷ bl ∷ []) (led 1) (Err no_such_place)
    ∷ case (ir ∷ []) (blind 1) (Err no_such_place)
    ∷ []

pub record Worked : Type 0 where
  pub numbers : map ask cases ≡ map (λ (c : Case). c.answer) cases
  -- and so are they by the bytes, from any fresh picture
  pub by_bytes : (b : List ℕ) → size ≤ length b → (c : Case) → (reply (run_bytes b deepest (reverse c.events)) example c.asked []).answer ≡ ask c
