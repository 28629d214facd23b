-- What the byte of a 9 means, for the reader and for the writer. The proofs are in proofs/Beyond.antt.
use Rattle.std.specs.Prelude.{ℕ, ◌-◌, ◌≤◌, ◌<◌, ◌≡◌, List, true, false, cond, length, take, Ok, Err}
use Rattle.laws.specs.Limits.{AllBytes}
use Rattle.laws.specs.Refusals.{bad_field, code_at}
use Rattle.laws.specs.Tests.{unless}
use Rattle.laws.specs.Answers.{refusal_in}
use Rattle.frame.specs.Identifiers.{identifier_of}
use Rattle.kinds.specs.Types.{row_for}
use Rattle.frame.specs.Bytes.{byte}
use Rattle.fields.specs.Fields.{time_allowed}
use Rattle.judging.specs.Reading.{reading, reading_number}
use Rattle.codec.specs.Encoding.{encode}
use Rattle.codec.specs.Statements.{OfRow}
use Rattle.codec.specs.Writing.{writing, writing_numbers}
use Rattle.frame.specs.declared.identifiers.Address.{Address}
use Rattle.frame.specs.declared.messages.Location.{Location}
use Rattle.frame.specs.declared.messages.Time.{Time}
use Rattle.frame.specs.declared.messages.Time.TheVariants.{DipSwitch}
use Rattle.frame.specs.declared.messages.Command.{Command}
use Rattle.frame.specs.declared.messages.Command.TheVariants.{TypeLong, TypeShort, Buttons, CellTold, BlockTold, CellAsked, BlockAsked, DumpAsked, CellSet, BlockSet, Errors, ErrorsAsked, NameOne, NameTwo, NameThree, NameAsked, StatusAsked, InputStatus, LedsAll, Leds, BlindStatus, BlindStop, BlindUp, BlindDown}
use Rattle.frame.specs.declared.messages.Message.TheVariants.{Tells}
use Rattle.repair.specs.Allowed.{allowed}

-- byte k, behind the command: whatever the later bytes are, the fields are not allowed; and with this byte and the later ones chosen
-- anew, they are, so that no earlier byte is one
pub record BeyondRepair (kind : ℕ) (s : List ℕ) (k : ℕ) : Type 0 where
  pub behind_command : 1 < k
  pub in_frame : k ≤ length s
  pub no_choice : (t : List ℕ) → AllBytes t → length t ≡ length s → take k t ≡ take k s → allowed kind t ≡ false
  pub mended : List ℕ
  pub mended_bytes : AllBytes mended
  pub mended_length : length mended ≡ length s
  pub mended_agrees : take (k - 1) mended ≡ take (k - 1) s
  pub mended_allowed : allowed kind mended ≡ true

-- a frame of the row, at the address, is read where its fields are allowed, and else is 9 with the first byte that is beyond repair
pub record Answered (kind c : ℕ) (a : Address) (s : List ℕ) : Type 0 where
  pub accepted :
      allowed kind s ≡ true → (m : Command) × (reading kind (identifier_of (row_for kind c).1 a) 0 s ≡ Ok (a, Tells m))
  pub refused :
      allowed kind s ≡ false
      → (k : ℕ) × BeyondRepair kind s k × (reading kind (identifier_of (row_for kind c).1 a) 0 s ≡ Err (code_at bad_field k))

-- the location and the time that a message holds, where it holds one
pub record Parts : Type 0 where
  pub place : ℕ
  pub time : Time

abbrev pub free : Parts
free = record { place = 0; time = DipSwitch }

abbrev pub at : Location → Parts
at l = record { place = l.0; time = DipSwitch }

abbrev pub lasting : Time → Parts
lasting t = record { place = 0; time = t }

abbrev pub parts : Command → Parts
parts (TypeLong k a b c year week) = free
parts (TypeShort k a year week) = free
parts (Buttons a b c) = free
parts (CellTold l v) = at l
parts (BlockTold l a b c d) = at l
parts (CellAsked l) = at l
parts (BlockAsked l) = at l
parts DumpAsked = free
parts (CellSet l v) = at l
parts (BlockSet l a b c d) = at l
parts (Errors a b c) = free
parts ErrorsAsked = free
parts (NameOne n a b c d e f) = free
parts (NameTwo n a b c d e f) = free
parts (NameThree n a b c d) = free
parts (NameAsked n) = free
parts (StatusAsked n) = free
parts (InputStatus a b c d) = free
parts (LedsAll a b c) = free
parts (Leds g x) = free
parts (BlindStatus n a b c d e f) = free
parts (BlindStop n) = free
parts (BlindUp n t) = lasting t
parts (BlindDown n t) = lasting t

-- the refusal of a message that its frame would have of itself, and 9 with byte 3 where the frame has none and the time is not legal
abbrev pub frame_or_time : ℕ → Address → Command → ℕ
frame_or_time kind a m =
    cond (allowed kind (encode m)) (unless (time_allowed (parts m).time) (code_at bad_field 3) 0)
    (reading_number (reading kind (identifier_of (row_for kind (byte 1 (encode m))).1 a) 0 (encode m)))

-- the byte of a 9 is the first, from the left, that no allowed choice of the later bytes can repair: of a frame that is read, of every type's list
-- and at every address; and of the frame that a message would be, with byte 3 for a time. A location has 16 bits, as the code's has.
pub record FirstBeyondRepair : Type 0 where
  pub read : (kind c : ℕ) (a : Address) (s : List ℕ) → a.0 < 256 → AllBytes s → OfRow kind c s → Answered kind c a s
  pub written :
      (kind : ℕ) (a : Address) (m : Command)
      → a.0 < 256
      → AllBytes (encode m)
      → OfRow kind (byte 1 (encode m)) (encode m)
      → (parts m).place < 65536
      → refusal_in (writing_numbers (writing kind a (Tells m))) ≡ frame_or_time kind a m
