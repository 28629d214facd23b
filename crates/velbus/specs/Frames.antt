-- Frames read into a lent message, and messages written into a lent frame: the result word, and what the buffer then holds.
use Rattle.std.specs.Prelude.{ℕ, List, cond, ltb, length, Ok, Err, Some, None}
use Rattle.laws.specs.Refusals.{not_listed, too_short}
use Rattle.laws.specs.Answers.{unless_refusal}
use Rattle.laws.specs.Copies.{copied_in}
use Rattle.judging.specs.Reading.{reading_numbers, Reading}
use Rattle.codec.specs.Writing.{handed_refusal, writing, writing_numbers, frame_size, frame_bytes, Writing}
use Rattle.results.specs.Words.{refused_word, word, room_numbers}
use Rattle.layouts.specs.Parts.{parts_of, Held}
use Rattle.layouts.specs.Layout.{message_size, laid_bytes, held_in}

-- velbus_read: the reader's own refusals, then 13
abbrev pub read_word : Reading → ℕ → ℕ
read_word r room = word (unless_refusal (reading_numbers r) (room_numbers room message_size))

abbrev pub read_into : Reading → List ℕ → List ℕ
read_into (Ok (a, m)) out = copied_in out 0 (laid_bytes (parts_of a m))
read_into (Err number) out = out

-- the writer's own refusals, then 13
abbrev pub written_word : Writing → ℕ → ℕ
written_word w room = word (unless_refusal (writing_numbers w) (room_numbers room frame_size))

abbrev pub written_into : Writing → List ℕ → List ℕ
written_into (Ok f) out = copied_in out 0 (frame_bytes f)
written_into (Err number) out = out

-- bytes that are no message are 6, after a bad handed-in type
abbrev pub held_word : ℕ → Held → ℕ → ℕ
held_word kind (Some (a, m)) room = written_word (writing kind a m) room
held_word kind None room = refused_word (handed_refusal kind not_listed)

abbrev pub held_into : ℕ → Held → List ℕ → List ℕ
held_into kind (Some (a, m)) out = written_into (writing kind a m) out
held_into kind None out = out

-- velbus_write: a message buffer too short is 13, before anything else
unfoldable pub write_word : ℕ → List ℕ → ℕ → ℕ
write_word kind message room = cond (ltb (length message) message_size) (refused_word too_short) (held_word kind (held_in message) room)

unfoldable pub write_into : ℕ → List ℕ → List ℕ → List ℕ
write_into kind message out = cond (ltb (length message) message_size) out (held_into kind (held_in message) out)
