-- Demand 2: frames are read and written as the module documents define them; read-then-written is the same frame; every legal message written reads
-- back as itself; an accepted frame has its defined effect on the addressed module and on no other. The proof is proofs/Demand2.antt.
use Rattle.std.specs.Prelude.{ℕ, ◌<◌, ◌≡◌, Ok}
use Rattle.frame.specs.Bytes.{data_bytes}
use Rattle.judging.specs.Reading.{reading}
use Rattle.codec.specs.Writing.{writing}
use Rattle.codec.specs.Statements.{ReadThenWritten, WrittenThenRead, OneFrame, EveryFrame, EveryRow, EveryRequest}
use Rattle.repair.specs.Beyond.{FirstBeyondRepair}
use Rattle.frame.specs.declared.identifiers.Address.{Address}
use Rattle.frame.specs.declared.messages.Message.{Message}
use Rattle.codec.specs.declared.writer.Frame.{Frame}
use Rattle.shape.specs.Limits.{addresses}
use Rattle.places.specs.Fitting.{RunsLie, RunsFit}
use Rattle.places.specs.Apart.{Apart, Inside}
use Rattle.history.specs.Speaks.{NamesNumbered, BlindsNumbered, SpeaksOf}
use Rattle.history.specs.InMemory.{InMemory}
use Rattle.history.specs.Effects.{Effects, HearsCommand, HearsEntry, HearsExchange}
use Rattle.layouts.specs.Statements.{LaidIsHeld}
use Rattle.velbus.specs.Statements.{ReadThenWrittenAgain, LaidIsReadBack}
use Rattle.demands.specs.Order.{answers, verdict, writer_order}

-- the message is written as a frame, and that reads back as the message
pub record ReadsBack (kind : ℕ) (a : Address) (m : Message) : Type 0 where
  pub frame : Frame
  pub written : writing kind a m ≡ Ok frame
  pub read : reading kind frame.identifier frame.remote (data_bytes frame.bytes) ≡ Ok (a, m)

-- a message is legal where the writer's order has nothing against it
abbrev pub LegalIsWritten : Type 0
LegalIsWritten = (kind : ℕ) (a : Address) (m : Message) → a.0 < addresses → verdict (writer_order kind m) ≡ answers → ReadsBack kind a m

pub record Demand2 : Type 0 where
  -- every frame of the documents is read as the message that they define, at every address, and no two frames as the same
  pub every_frame : EveryFrame
  pub every_row : EveryRow
  pub every_request : EveryRequest
  pub one_frame : OneFrame
  -- the byte that a 9 comes with, in reading and in writing
  pub first_beyond_repair : FirstBeyondRepair
  -- read-then-written is the same frame, for a C caller too
  pub read_then_written : ReadThenWritten
  pub read_then_written_again : ReadThenWrittenAgain
  -- every legal message written reads back as itself, and so it does from a C caller's buffer
  pub legal_is_written : LegalIsWritten
  pub written_then_read : WrittenThenRead
  pub laid_is_held : LaidIsHeld
  pub laid_is_read_back : LaidIsReadBack
  -- what each message says of each place, all of them places that its type has
  pub speaks_of : SpeaksOf
  pub names_numbered : NamesNumbered
  pub blinds_numbered : BlindsNumbered
  pub runs_lie : RunsLie
  pub runs_fit : RunsFit
  -- different things have different places, each in the record; the names of H'0A' live in its memory, and a character and its cell are one place
  pub apart : Apart
  pub inside : Inside
  pub in_memory : InMemory
  -- an accepted frame changes the addressed module so, and no other
  pub effects : Effects
  pub hears_command : HearsCommand
  pub hears_entry : HearsEntry
  pub hears_exchange : HearsExchange
