-- What is promised of messages and frames in a C caller's buffers. The proof is proofs/Again.antt.
use Rattle.std.specs.Prelude.{ℕ, ◌<◌, ◌≤◌, ◌≡◌, List, ◌++◌, length, Ok}
use Rattle.laws.specs.Limits.{AllBytes}
use Rattle.laws.specs.Copies.{copied_in}
use Rattle.frame.specs.Bytes.{data_bytes}
use Rattle.judging.specs.Reading.{reading}
use Rattle.codec.specs.Writing.{writing, frame_bytes, frame_size}
use Rattle.codec.specs.declared.writer.Frame.{Frame}
use Rattle.frame.specs.declared.identifiers.Address.{Address}
use Rattle.frame.specs.declared.messages.Message.{Message}
use Rattle.layouts.specs.Parts.{no_message, parts_of}
use Rattle.layouts.specs.Layout.{message_size, laid_bytes, held_in}
use Rattle.velbus.specs.Frames.{read_word, read_into, write_word, write_into}
use Rattle.results.specs.Words.{room_word}

-- velbus_write gives just this frame, into the buffer `out`
pub record WritesAgain (kind : ℕ) (message out : List ℕ) (identifier remote : ℕ) (s : List ℕ) : Type 0 where
  pub frame : Frame
  pub word : write_word kind message (length out) ≡ room_word (length out) frame_size
  pub buffer : write_into kind message out ≡ copied_in out 0 (frame_bytes frame)
  pub same_identifier : frame.identifier ≡ identifier
  pub same_remote : frame.remote ≡ remote
  pub same_data : data_bytes frame.bytes ≡ s

-- a C caller that reads a frame into a message and writes the message gets the same frame
abbrev pub ReadThenWrittenAgain : Type 0
ReadThenWrittenAgain =
    (kind identifier remote : ℕ) (s message out : List ℕ) (a : Address) (m : Message) →
    AllBytes s →
    message_size ≤ length message →
    reading kind identifier remote s ≡ Ok (a, m) →
    WritesAgain kind (read_into (reading kind identifier remote s) message) out identifier remote s

-- velbus_write makes a frame of the laid-out message, whatever stands after it, and velbus_read makes the same bytes of that frame again, in any buffer
pub record ReadsBackAs (kind : ℕ) (laid after out back : List ℕ) (f : Frame) : Type 0 where
  pub word : write_word kind (laid ++ after) (length out) ≡ room_word (length out) frame_size
  pub buffer : write_into kind (laid ++ after) out ≡ copied_in out 0 (frame_bytes f)
  pub read : read_word (reading kind f.identifier f.remote (data_bytes f.bytes)) (length back) ≡ room_word (length back) message_size
  pub same : read_into (reading kind f.identifier f.remote (data_bytes f.bytes)) back ≡ copied_in back 0 laid

-- a legal message that a C caller lays out is written, and reads back as the same bytes
abbrev pub LaidIsReadBack : Type 0
LaidIsReadBack =
    (kind : ℕ) (a : Address) (m : Message) (f : Frame) (after out back : List ℕ) →
    a.0 < 256 →
    writing kind a m ≡ Ok f →
    ReadsBackAs kind (laid_bytes (parts_of a m)) after out back f
