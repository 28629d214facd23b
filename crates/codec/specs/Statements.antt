-- What is promised of frames beyond each function's own contract. The proofs are in proofs/RoundTrip.antt and proofs/Accepted.antt.
use Rattle.std.specs.Prelude.{ℕ, ◌<◌, ◌≡◌, List, [], true, length, Ok, Err}
use Rattle.laws.specs.Limits.{AllBytes}
use Rattle.laws.specs.Refusals.{bad_field, code_at}
use Rattle.laws.specs.Tests.{among}
use Rattle.kinds.specs.Types.{low, handed_types, row_for, is_listed}
use Rattle.frame.specs.Identifiers.{identifier_of}
use Rattle.frame.specs.Bytes.{byte, data_bytes}
use Rattle.frame.specs.Messages.{type_command}
use Rattle.fields.specs.Fields.{fault}
use Rattle.judging.specs.Reading.{reading}
use Rattle.codec.specs.Documented.{Documented}
use Rattle.codec.specs.Writing.{writing}
use Rattle.frame.specs.declared.identifiers.Address.{Address}
use Rattle.frame.specs.declared.messages.Command.{Command}
use Rattle.frame.specs.declared.messages.Message.{Message}
use Rattle.frame.specs.declared.messages.Message.TheVariants.{TypeRequest, Tells}
use Rattle.codec.specs.declared.writer.Frame.{Frame}

-- the writer gives just this frame
pub record Gives (kind : ℕ) (a : Address) (m : Message) (identifier remote : ℕ) (s : List ℕ) : Type 0 where
  pub frame : Frame
  pub given : writing kind a m ≡ Ok frame
  pub same_identifier : frame.identifier ≡ identifier
  pub same_remote : frame.remote ≡ remote
  pub same_data : data_bytes frame.bytes ≡ s

-- a frame that is read and written again is the same frame
abbrev pub ReadThenWritten : Type 0
ReadThenWritten =
    (kind identifier remote : ℕ) (s : List ℕ) (a : Address) (m : Message) →
    AllBytes s →
    reading kind identifier remote s ≡ Ok (a, m) →
    Gives kind a m identifier remote s

-- a message that is written reads back as itself, under the same type
abbrev pub WrittenThenRead : Type 0
WrittenThenRead =
    (kind : ℕ) (a : Address) (m : Message) (f : Frame) →
    a.0 < 256 →
    writing kind a m ≡ Ok f →
    reading kind f.identifier f.remote (data_bytes f.bytes) ≡ Ok (a, m)

-- two frames that are read as the same message of the same address are one frame
abbrev pub OneFrame : Type 0
OneFrame =
    (kind i remote j other : ℕ) (s t : List ℕ) (a : Address) (m : Message) →
    AllBytes s →
    AllBytes t →
    reading kind i remote s ≡ Ok (a, m) →
    reading kind j other t ≡ Ok (a, m) →
    (i ≡ j) × (remote ≡ other) × (s ≡ t)

-- the data of a frame in a type's list: the command, so many bytes, and in H'FF' the type itself
pub record OfRow (kind c : ℕ) (s : List ℕ) : Type 0 where
  pub listed : is_listed kind c ≡ true
  pub begins : byte 1 s ≡ c
  pub sized : length s ≡ (row_for kind c).0
  pub own : c ≡ type_command → byte 2 s ≡ kind

-- it is read at the address as the message that the documents define, where its fields are allowed, and is 9 with its byte where they are not
pub record ReadAs (kind c : ℕ) (a : Address) (s : List ℕ) : Type 0 where
  pub says : Command
  pub documented : Documented s says
  pub read : fault kind says ≡ 0 → reading kind (identifier_of (row_for kind c).1 a) 0 s ≡ Ok (a, Tells says)
  pub refused : (fault kind says ≡ 0 → ⊥) → reading kind (identifier_of (row_for kind c).1 a) 0 s ≡ Err (code_at bad_field (fault kind says))

-- every frame of every type's list, at every address
abbrev pub EveryFrame : Type 0
EveryFrame = (kind c : ℕ) (a : Address) (s : List ℕ) → a.0 < 256 → AllBytes s → OfRow kind c s → ReadAs kind c a s

-- and some data of each row are allowed: a frame of the command is read
pub record Accepts (kind c : ℕ) (a : Address) : Type 0 where
  pub bytes : List ℕ
  pub says : Command
  pub begins : byte 1 bytes ≡ c
  pub read : reading kind (identifier_of (row_for kind c).1 a) 0 bytes ≡ Ok (a, Tells says)

abbrev pub EveryRow : Type 0
EveryRow = (kind c : ℕ) (a : Address) → is_listed kind c ≡ true → a.0 < 256 → Accepts kind c a

-- the type request too, with any type or none
abbrev pub EveryRequest : Type 0
EveryRequest = (kind : ℕ) (a : Address) → among kind handed_types ≡ true → a.0 < 256 → reading kind (identifier_of low a) 1 [] ≡ Ok (a, TypeRequest)
