-- What a frame reads as: the refusals in document 01's order, then the message.
use Rattle.std.specs.Prelude.{ℕ, List, not, cond, length, eqb, leb, Result, Ok, Err}
use Rattle.laws.specs.Refusals.{bad_identifier, sid0_set, bad_form, bad_priority, bad_type, type_not_known, not_listed, wrong_length, wrong_priority}
use Rattle.laws.specs.Tests.{among, unless, unless_refused}
use Rattle.laws.specs.Answers.{Numbers, value, refusal, refusal_in}
use Rattle.kinds.specs.Types.{low, priorities, no_type, module_types, handed_types, row_for, is_listed}
use Rattle.frame.specs.Identifiers.{priority_of, address_of, eleven_bits, sid0_clear, well_formed}
use Rattle.frame.specs.Bytes.{data_of, bytes_of}
use Rattle.frame.specs.Messages.{type_command, decode}
use Rattle.fields.specs.Fields.{fault, field_refusal}
use Rattle.frame.specs.declared.bytes.Data.{Data}
use Rattle.frame.specs.declared.identifiers.Address.{Address}
use Rattle.frame.specs.declared.messages.Command.{Command}
use Rattle.frame.specs.declared.messages.Message.{Message}
use Rattle.frame.specs.declared.messages.Message.TheVariants.{TypeRequest, Tells}

-- what a frame reads as: the address and the message, or the number of a refusal
abbrev pub Reading : Type 0
Reading = Result (Address × Message) ℕ

-- a bad handed-in type, then 1, 17, 2, 3
abbrev pub frame_refusal : ℕ → ℕ → ℕ → ℕ → ℕ
frame_refusal kind identifier remote count =
    unless (among kind handed_types) bad_type
    (unless (eleven_bits identifier) bad_identifier
    (unless (sid0_clear identifier) sid0_set
    (unless (well_formed remote count) bad_form
    (unless (among (priority_of identifier) priorities) bad_priority
    0))))

-- a command c of so many bytes, by the rows of the type, and then by its fields: 6, 7, 8, 9
abbrev pub by_row : ℕ → ℕ → ℕ → ℕ → ℕ → ℕ
by_row kind c count priority fault =
    unless (is_listed kind c) not_listed
    (unless (eqb count (row_for kind c).0) wrong_length
    (unless (eqb priority (row_for kind c).1) wrong_priority
    (field_refusal fault)))

-- a command m with the data d, by the rows and the fields of the type
abbrev pub row_refusal : ℕ → ℕ → Data → Command → ℕ
row_refusal kind priority d m = by_row kind d.1 d.0 priority (fault kind m)

-- the type that decides: the one inside FF, else the one handed in
abbrev pub own_type : ℕ → Data → ℕ
own_type kind d = cond (eqb d.1 type_command) d.2 kind

-- FF with fewer than 2 bytes is 7, then its type byte; any other command 5; then the rows
abbrev pub command_refusal : ℕ → ℕ → Data → Command → ℕ
command_refusal kind priority d m =
    cond (eqb d.1 type_command)
    (unless (leb 2 d.0) wrong_length (unless (among (own_type kind d) module_types) bad_type (row_refusal (own_type kind d) priority d m)))
    (unless (not (eqb kind no_type)) type_not_known (row_refusal (own_type kind d) priority d m))

-- a frame with data
unfoldable pub command_read : ℕ → ℕ → Address → Data → Reading
command_read kind priority a d =
    unless_refused Err (command_refusal kind priority d (decode (bytes_of d))) (Ok (a, Tells (decode (bytes_of d))))

-- a remote frame is the type request, at any address, with only 8 left to test
abbrev pub request_refusal : ℕ → ℕ
request_refusal priority = unless (eqb priority low) wrong_priority 0

unfoldable pub request_read : ℕ → Address → Reading
request_read priority a = unless_refused Err (request_refusal priority) (Ok (a, TypeRequest))

-- the type handed in, the identifier, the remote flag, the data
unfoldable pub reading : ℕ → ℕ → ℕ → List ℕ → Reading
reading kind identifier remote s =
    unless_refused Err (frame_refusal kind identifier remote (length s))
    (cond (eqb remote 1)
    (request_read (priority_of identifier) (address_of identifier))
    (command_read kind (priority_of identifier) (address_of identifier) (data_of s)))

-- in the paper's numbers, a 9 with its byte
abbrev pub reading_numbers : Reading → Numbers
reading_numbers (Ok (a, m)) = value 0
reading_numbers (Err n) = refusal n

abbrev pub reading_number : Reading → ℕ
reading_number r = refusal_in (reading_numbers r)
