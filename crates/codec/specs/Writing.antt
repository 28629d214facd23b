-- The frame that a message is written as, or the first refusal in document 01's order.
use Rattle.std.specs.Prelude.{ℕ, ◌/◌, ◌%◌, List, [], ◌∷◌, Bool, not, ◌||◌, eqb, Result, Ok, Err}
use Rattle.laws.specs.Refusals.{bad_type, type_not_known, not_listed}
use Rattle.laws.specs.Tests.{among, unless, unless_refused}
use Rattle.laws.specs.Answers.{Numbers, value, refusal}
use Rattle.kinds.specs.Types.{low, no_type, handed_types, row_for, is_listed}
use Rattle.frame.specs.Identifiers.{identifier_of}
use Rattle.frame.specs.Bytes.{data_of, bytes_of}
use Rattle.frame.specs.Messages.{type_command}
use Rattle.codec.specs.Encoding.{encode}
use Rattle.fields.specs.Fields.{fault, field_refusal}
use Rattle.judging.specs.Reading.{own_type}
use Rattle.frame.specs.declared.bytes.Data.{Data}
use Rattle.frame.specs.declared.identifiers.Address.{Address}
use Rattle.frame.specs.declared.messages.Command.{Command}
use Rattle.frame.specs.declared.messages.Message.{Message}
use Rattle.frame.specs.declared.messages.Message.TheVariants.{TypeRequest, Tells}
use Rattle.codec.specs.declared.writer.Frame.{Frame}

-- what a message is written as: the frame, or the number of a refusal
abbrev pub Writing : Type 0
Writing = Result Frame ℕ

-- a bad handed-in type, then what the message has against it
abbrev pub handed_refusal : ℕ → ℕ → ℕ
handed_refusal kind later = unless (among kind handed_types) bad_type later

-- the type that stands in FF has a type frame of that length
abbrev pub type_fits : Data → Bool
type_fits d = not (eqb d.1 type_command) || eqb d.0 (row_for d.2 type_command).0

-- a command m of the bytes d, by the type that decides: 4 for FF of a type that has no such frame, 5 for none, then 6, and 9 with its byte
abbrev pub write_refusal : ℕ → Data → Command → ℕ
write_refusal own d m =
    unless (type_fits d) bad_type
    (unless (not (eqb own no_type)) type_not_known
    (unless (is_listed own d.1) not_listed
    (field_refusal (fault own m))))

abbrev pub request_frame : Address → Frame
request_frame a = record { identifier = identifier_of low a; remote = 1; bytes = data_of [] }

-- the command's own priority, and its bytes
abbrev pub command_frame : ℕ → Address → Data → Frame
command_frame own a d = record { identifier = identifier_of (row_for own d.1).1 a; remote = 0; bytes = d }

-- a command m, whose bytes are d
unfoldable pub written_as : ℕ → Address → Command → Data → Writing
written_as kind a m d =
    unless_refused Err (handed_refusal kind (write_refusal (own_type kind d) d m)) (Ok (command_frame (own_type kind d) a d))

unfoldable pub command_written : ℕ → Address → Command → Writing
command_written kind a m = written_as kind a m (data_of (encode m))

-- the type, the address, the message
unfoldable pub writing : ℕ → Address → Message → Writing
writing kind a TypeRequest = unless_refused Err (handed_refusal kind 0) (Ok (request_frame a))
writing kind a (Tells m) = command_written kind a m

-- in the paper's numbers
abbrev pub writing_numbers : Writing → Numbers
writing_numbers (Ok f) = value 0
writing_numbers (Err n) = refusal n

-- a frame in 12 bytes, as it lies in a buffer: identifier low, identifier high, remote flag, count, eight data bytes
abbrev pub frame_size : ℕ
frame_size = 12

abbrev pub frame_bytes : Frame → List ℕ
frame_bytes f = f.identifier % 256 ∷ f.identifier / 256 % 256 ∷ f.remote % 256 ∷ f.bytes.0 % 256 ∷ bytes_of f.bytes
