-- Document 01's order of refusals: for each call the tests that it makes, in the paper's order, each with the number of its refusal.
use Rattle.layouts.specs.Parts.{Held}
use Rattle.std.specs.Prelude.{ℕ, ◌+◌, ◌*◌, List, [], ◌∷◌, ◌++◌, Bool, false, not, ◌&&◌, ◌||◌, cond, eqb, ltb, leb, length, Some, None}
use Rattle.laws.specs.Refusals.{bad_identifier, sid0_set, bad_form, bad_priority, bad_type, type_not_known, not_listed, wrong_length, wrong_priority, bad_field, code_at, no_room, nothing_kept, no_such_place, too_short, bad_number}
use Rattle.laws.specs.Tests.{among}
use Rattle.kinds.specs.Types.{low, priorities, no_type, vmb8ir, module_types, handed_types, row_for, is_listed, extent_of}
use Rattle.frame.specs.Identifiers.{priority_of, eleven_bits, sid0_clear, well_formed}
use Rattle.frame.specs.Bytes.{byte}
use Rattle.frame.specs.Messages.{type_command}
use Rattle.codec.specs.Encoding.{encode}
use Rattle.fields.specs.Fields.{fault}
use Rattle.frame.specs.declared.messages.Command.{Command}
use Rattle.frame.specs.declared.messages.Message.{Message}
use Rattle.frame.specs.declared.messages.Message.TheVariants.{TypeRequest, Tells}
use Rattle.shape.specs.Limits.{room, addresses, bus_address}
use Rattle.places.specs.Places.{places, name_length, year_place, week_place, cell_asked, led_asked, blind_asked, has_name}
use Rattle.places.specs.Runs.{command_of}
use Rattle.shape.specs.Head.{short, modules_of, kept_of, slot_of, kind_in}
use Rattle.questions.specs.Question.{Question, type_of, build_year, build_week, cell, led, blind, name_row, name_bytes, memory_row, memory_bytes}
use Rattle.questions.specs.Replies.{slot_asked}
use Rattle.history.specs.Standing.{deepest}
use Rattle.replies.specs.Bench.{bench_size, own_address}
use Rattle.bench.specs.Making.{named_cells}
use Rattle.bench.specs.Deeds.{done}
use Rattle.replies.specs.Replies.{replies}
use Rattle.verdicts.specs.Verdicts.{sent_only}
use Rattle.recording.specs.Limits.{in_range}
use Rattle.recorder.specs.Write.{record_bytes}
use Rattle.codec.specs.Writing.{frame_size}
use Rattle.layouts.specs.Layout.{message_size, held_in}

infix 70 ◌or◌
-- a test, or the number of the refusal where it fails
pub record Test : Type 0 where
  pub passes : Bool
  pub number : ℕ

abbrev pub ◌or◌ : Bool → ℕ → Test
◌or◌ passes number = record { passes = passes; number = number }

-- what a call comes to: an answer, or one refusal number
pub data Verdict : Type 0 where
  answers : Verdict
  refuses : ℕ → Verdict

-- an answer where every test passes; else the number of the first that fails
abbrev pub verdict : List Test → Verdict
verdict [] = answers
verdict (t ∷ ts) = cond t.passes (verdict ts) (refuses t.number)

-- ---- frames
-- a bad handed-in type (4), 1, 17, 2, 3
abbrev pub form_tests : ℕ → ℕ → ℕ → List ℕ → List Test
form_tests kind identifier remote s =
    among kind handed_types or bad_type
    ∷ eleven_bits identifier or bad_identifier
    ∷ sid0_clear identifier or sid0_set
    ∷ well_formed remote (length s) or bad_form
    ∷ among (priority_of identifier) priorities or bad_priority
    ∷ []

-- then a remote frame is the type request, at any address, with only 8 left to test
abbrev pub request_tests : ℕ → List Test
request_tests identifier = eqb (priority_of identifier) low or wrong_priority ∷ []

-- every field is allowed, or 9 with the number of the byte at fault
abbrev pub allowed_test : ℕ → Test
allowed_test fault = eqb fault 0 or code_at bad_field fault

-- a command in the type's list: 7, 8, 9
abbrev pub row_tests : ℕ → ℕ → List ℕ → List Test
row_tests kind identifier s =
    eqb (length s) (row_for kind (byte 1 s)).0 or wrong_length
    ∷ eqb (priority_of identifier) (row_for kind (byte 1 s)).1 or wrong_priority
    ∷ allowed_test (fault kind (command_of s))
    ∷ []

-- FF with fewer than 2 bytes is 7; then its type byte (4), and 7, 8, 9 by the type inside it
abbrev pub type_tests : ℕ → List ℕ → List Test
type_tests identifier s = leb 2 (length s) or wrong_length ∷ among (byte 2 s) module_types or bad_type ∷ row_tests (byte 2 s) identifier s

-- any other command: 5, 6, 7, 8, 9
abbrev pub other_tests : ℕ → ℕ → List ℕ → List Test
other_tests kind identifier s =
    not (eqb kind no_type) or type_not_known ∷ is_listed kind (byte 1 s) or not_listed ∷ row_tests kind identifier s

-- a frame with data: FF, with what is tested last of it, or any other command
abbrev pub data_tests : List Test → ℕ → ℕ → List ℕ → List Test
data_tests last kind identifier s = cond (eqb (byte 1 s) type_command) (type_tests identifier s ++ last) (other_tests kind identifier s)

-- the whole order
abbrev pub frame_order : List Test → ℕ → ℕ → ℕ → List ℕ → List Test
frame_order last kind identifier remote s =
    form_tests kind identifier remote s ++ cond (eqb remote 1) (request_tests identifier) (data_tests last kind identifier s)

-- the reader alone gives no 10
abbrev pub reader_order : ℕ → ℕ → ℕ → List ℕ → List Test
reader_order kind identifier remote s = frame_order [] kind identifier remote s

-- the writer: FF goes by the type inside it, which has a type frame of that length (4), and then 9
abbrev pub type_written : Command → List Test
type_written m =
    eqb (length (encode m)) (row_for (byte 2 (encode m)) type_command).0 or bad_type ∷ allowed_test (fault (byte 2 (encode m)) m) ∷ []

-- any other command: 5, 6, 9
abbrev pub other_written : ℕ → Command → List Test
other_written kind m =
    not (eqb kind no_type) or type_not_known ∷ is_listed kind (byte 1 (encode m)) or not_listed ∷ allowed_test (fault kind m) ∷ []

-- the type request has nothing left to test
abbrev pub message_tests : ℕ → Message → List Test
message_tests kind TypeRequest = []
message_tests kind (Tells m) = cond (eqb (byte 1 (encode m)) type_command) (type_written m) (other_written kind m)

-- a bad handed-in type (4) comes first
abbrev pub writer_order : ℕ → Message → List Test
writer_order kind m = among kind handed_types or bad_type ∷ message_tests kind m

-- ---- the picture
-- a picture too short is 13, before anything else
abbrev pub picture_test : List ℕ → Test
picture_test b = not (short b) or too_short

-- a fresh picture that names its depth: none is above 64
abbrev pub fresh_order : List ℕ → ℕ → List Test
fresh_order b depth = picture_test b ∷ not (ltb deepest depth) or no_such_place ∷ []

-- the slot and the type that the picture has for the address of a frame
abbrev pub slot_heard : List ℕ → ℕ → ℕ
slot_heard b identifier = slot_of b (bus_address identifier)

abbrev pub kind_heard : List ℕ → ℕ → ℕ
kind_heard b identifier = kind_in b (slot_heard b identifier)

-- FF at a listed address, or while there is room
abbrev pub room_test : List ℕ → ℕ → Test
room_test b identifier = (ltb (slot_heard b identifier) room || ltb (modules_of b) room) or no_room

-- a frame heard: the reader's, by the type that the picture has for the address; and 10 after those of FF
abbrev pub hearing_order : List ℕ → ℕ → ℕ → List ℕ → List Test
hearing_order b identifier remote s = picture_test b ∷ frame_order (room_test b identifier ∷ []) (kind_heard b identifier) identifier remote s

-- a step back with 0 kept
abbrev pub back_order : List ℕ → List Test
back_order b = picture_test b ∷ not (eqb (kept_of b) 0) or nothing_kept ∷ []

-- ---- questions: 5, 12, 13
-- the row of n numbers has room in the buffer
abbrev pub row_test : ℕ → List ℕ → Test
row_test n out = leb n (length out) or too_short

-- the listed addresses
abbrev pub listed_order : List ℕ → List ℕ → List Test
listed_order b out = picture_test b ∷ row_test addresses out ∷ []

-- there is such a place; such a name
abbrev pub place_test : ℕ → Test
place_test p = ltb p places or no_such_place

abbrev pub name_test : ℕ → ℕ → Test
name_test kind name = has_name kind name or no_such_place

-- what is tested of a question on the module in slot s, whose type is kind
abbrev pub question_tests : List ℕ → ℕ → ℕ → Question → List ℕ → List Test
question_tests b s kind type_of out = []
question_tests b s kind build_year out = place_test year_place ∷ []
question_tests b s kind build_week out = place_test week_place ∷ []
question_tests b s kind (cell location) out = place_test (cell_asked kind location) ∷ []
question_tests b s kind (led n) out = place_test (led_asked kind n) ∷ []
question_tests b s kind (blind n) out = place_test (blind_asked kind n) ∷ []
question_tests b s kind (name_row n) out = name_test kind n ∷ row_test name_length out ∷ []
question_tests b s kind (name_bytes n) out = name_test kind n ∷ row_test (2 * name_length) out ∷ []
question_tests b s kind memory_row out = row_test (extent_of kind).cells out ∷ []
question_tests b s kind memory_bytes out = row_test (2 * (extent_of kind).cells) out ∷ []

-- every question on an address: 5 comes first
abbrev pub question_order : List ℕ → ℕ → Question → List ℕ → List Test
question_order b a q out =
    picture_test b ∷ ltb (slot_asked b a) room or type_not_known ∷ question_tests b (slot_asked b a) (kind_in b (slot_asked b a)) q out

-- ---- the plan of reads, of a module and into a list of so many entries: 5, 13; a proposed plan: 5
abbrev pub right_order : List ℕ → ℕ → List Test
right_order b a = picture_test b ∷ ltb (slot_asked b a) room or type_not_known ∷ []

abbrev pub plan_order : List ℕ → ℕ → ℕ → List ℕ → List Test
plan_order b a n out = picture_test b ∷ ltb (slot_asked b a) room or type_not_known ∷ row_test n out ∷ []

-- ---- the bench
-- a new one: 13 for its bytes, 13 for the cells, 5, 9 at byte 1
abbrev pub making_order : List ℕ → ℕ → List ℕ → List Test
making_order b address cells =
    not (ltb (length b) bench_size) or too_short
    ∷ not (ltb (length cells) named_cells) or too_short
    ∷ not (leb addresses address) or type_not_known
    ∷ not (eqb address 0) or code_at bad_field 1
    ∷ []

-- the message that a frame of good form is, and the bytes that its replies take
abbrev pub message_in : ℕ → List ℕ → Message
message_in remote s = cond (eqb remote 1) TypeRequest (Tells (command_of s))

abbrev pub reply_room : List ℕ → Message → ℕ
reply_room b m = frame_size * length (replies (done m b) m)

-- a frame at its own address: 6 for a command that only a module sends; the reader's others, by type H'0A'; last 13
abbrev pub own_tests : List ℕ → ℕ → ℕ → List ℕ → ℕ → List Test
own_tests b identifier remote s space =
    not (eqb remote 0 && among (byte 1 s) sent_only) or not_listed
    ∷ (cond (eqb remote 1) (request_tests identifier) (other_tests vmb8ir identifier s) ++ (leb (reply_room b (message_in remote s)) space or too_short ∷ []))

-- a frame: 13 for the bench; 1, 17, 2, 3; nothing more at another address
abbrev pub taking_order : List ℕ → ℕ → ℕ → List ℕ → ℕ → List Test
taking_order b identifier remote s space =
    not (ltb (length b) bench_size) or too_short
    ∷ (form_tests vmb8ir identifier remote s ++ cond (eqb (bus_address identifier) (own_address b)) (own_tests b identifier remote s space) [])

-- ---- recordings
-- a record put at a place: 16, then 13
abbrev pub put_order : List ℕ → ℕ → ℕ → ℕ → ℕ → List ℕ → List Test
put_order b at gap identifier remote ds =
    in_range gap identifier remote (length ds) or bad_number ∷ leb (at + length (record_bytes gap identifier remote ds)) (length b) or too_short ∷ []

-- a recording heard; a part of one, of n bytes behind `left` in a window; a listing put: 13 for the picture, then 13 for the buffer
abbrev pub replay_order : List ℕ → List Test
replay_order b = picture_test b ∷ []

abbrev pub part_order : List ℕ → List ℕ → ℕ → ℕ → List Test
part_order b w left n = picture_test b ∷ row_test (left + n) w ∷ []

abbrev pub listing_order : List ℕ → List ℕ → List ℕ → List Test
listing_order b text out = picture_test b ∷ row_test (length text) out ∷ []

-- ---- from C
-- velbus_read: the reader's own, then 13 for the message
abbrev pub read_order : ℕ → ℕ → ℕ → List ℕ → ℕ → List Test
read_order kind identifier remote s space = reader_order kind identifier remote s ++ (leb message_size space or too_short ∷ [])

-- velbus_write: 13 for the message; a bad handed-in type; 6 for bytes that are no message; the writer's others; 13 for the frame
abbrev pub held_tests : ℕ → Held → ℕ → List Test
held_tests kind (Some (a, m)) space = message_tests kind m ++ (leb frame_size space or too_short ∷ [])
held_tests kind None space = false or not_listed ∷ []

abbrev pub write_order : ℕ → List ℕ → ℕ → List Test
write_order kind message space =
    not (ltb (length message) message_size) or too_short ∷ among kind handed_types or bad_type ∷ held_tests kind (held_in message) space
