-- A C caller that reads a frame into a message and writes the message gets the same frame, and one that lays out a message, writes it and reads
-- the frame gets the same bytes.
-- Assumes nothing.
use Rattle.std.specs.Prelude.{Ok, Some}
use Prim.Native.Nat.{ℕ, ◌+◌, ◌≤◌, ◌<◌}
use native.Mathlib.Omega.{arith}
use mathlib.Core.Path.{◌≡◌, refl, ap, ◌∙◌}
use mathlib.Core.List.{List, ◌++◌}
use mathlib.Core.Bool.{Bool, true, not, ◌||◌}
use lib.ListN.{length, drop, length-append}
use lib.Dec.{eqb, leb, ltb, lit<}
use borrow.Author.Tests.{eqb-true, leb-true, ltb-true, le-ltb}
use Rattle.laws.specs.Copies.{copied_in}
use Rattle.laws.proofs.Testing.{held, and_both, or_right}
use Rattle.laws.proofs.Stores.{sets_front}
use Rattle.laws.proofs.Copying.{copied_all}
use Rattle.kinds.specs.Types.{long_type, short_type, no_row, row_for}
use Rattle.frame.specs.Bytes.{data_of}
use Rattle.frame.specs.Messages.{type_command}
use Rattle.codec.specs.Encoding.{encode}
use Rattle.fields.specs.Fields.{is_blind, time_allowed, timed_fault, fault}
use Rattle.judging.specs.Reading.{own_type, reading}
use Rattle.codec.specs.Writing.{type_fits, writing, frame_size, frame_bytes}
use Rattle.kinds.specs.declared.types.Row.{Row}
use Rattle.frame.specs.declared.identifiers.Address.{Address}
use Rattle.frame.specs.declared.messages.Time.{Time}
use Rattle.frame.specs.declared.messages.Time.TheVariants.{DipSwitch, Permanently, Seconds}
use Rattle.frame.specs.declared.messages.Command.{Command}
use Rattle.frame.specs.declared.messages.Command.TheVariants.{TypeLong, TypeShort, Buttons, CellTold, BlockTold, CellAsked, BlockAsked, DumpAsked, CellSet, BlockSet, Errors, ErrorsAsked, NameOne, NameTwo, NameThree, NameAsked, StatusAsked, InputStatus, LedsAll, Leds, BlindStatus, BlindStop, BlindUp, BlindDown}
use Rattle.frame.specs.declared.messages.Message.{Message}
use Rattle.frame.specs.declared.messages.Message.TheVariants.{TypeRequest, Tells}
use Rattle.codec.specs.declared.writer.Frame.{Frame}
use Rattle.kinds.proofs.Listed.{everywhere, of_any}
use Rattle.codec.proofs.Shapes.{cell_near, block_near}
use Rattle.codec.proofs.RoundTrip.{read_then_written, written_then_read, written_lawful}
use Rattle.layouts.specs.Parts.{time_seconds, Numbered, long_types, short_types, no_message, number_in, command_parts, parts_of}
use Rattle.results.specs.Words.{room_word}
use Rattle.layouts.specs.Layout.{message_size, laid_bytes, held_in}
use Rattle.velbus.specs.Frames.{held_word, held_into, read_into, write_word, write_into}
use Rattle.layouts.specs.Statements.{Fitting}
use Rattle.velbus.specs.Statements.{ReadThenWrittenAgain, LaidIsReadBack}
use Rattle.layouts.proofs.Holding.{laid_is_held}

-- What is written has a number, and a location and seconds that fit their fields.

short : (t : Time) → time_allowed t ≡ true → time_seconds t < 4294967296
short DipSwitch e = lit< tt
short Permanently e = lit< tt
short (Seconds n) e = let h = leb-true n 16777214 (and_both (leb 1 n) (leb n 16777214) e).1 in omega arith

timed-short : (kind n : ℕ) (t : Time) → timed_fault kind n t ≡ 0 → time_seconds t < 4294967296
timed-short kind n t e = short t (held (time_allowed t) 3 0 (lit< tt) (held (is_blind kind n) 2 _ (lit< tt) e).1).0

abbrev Fits : Address → Command → Type 0
Fits a m = ((command_parts a m).location < 65536) × ((command_parts a m).seconds < 4294967296)

fits : (kind : ℕ) (a : Address) (m : Command) → fault kind m ≡ 0 → Fits a m
unfolding command_parts
fits kind a (TypeLong k b c d e f) h = (lit< tt, lit< tt)
fits kind a (TypeShort k b c d) h = (lit< tt, lit< tt)
fits kind a (Buttons b c d) h = (lit< tt, lit< tt)
fits kind a (CellTold l v) h = (cell_near kind l h, lit< tt)
fits kind a (BlockTold l b c d e) h = (block_near kind l h, lit< tt)
fits kind a (CellAsked l) h = (cell_near kind l h, lit< tt)
fits kind a (BlockAsked l) h = (block_near kind l h, lit< tt)
fits kind a DumpAsked h = (lit< tt, lit< tt)
fits kind a (CellSet l v) h = (cell_near kind l h, lit< tt)
fits kind a (BlockSet l b c d e) h = (block_near kind l h, lit< tt)
fits kind a (Errors b c d) h = (lit< tt, lit< tt)
fits kind a ErrorsAsked h = (lit< tt, lit< tt)
fits kind a (NameOne n b c d e f g) h = (lit< tt, lit< tt)
fits kind a (NameTwo n b c d e f g) h = (lit< tt, lit< tt)
fits kind a (NameThree n b c d e) h = (lit< tt, lit< tt)
fits kind a (NameAsked n) h = (lit< tt, lit< tt)
fits kind a (StatusAsked n) h = (lit< tt, lit< tt)
fits kind a (InputStatus b c d e) h = (lit< tt, lit< tt)
fits kind a (LedsAll b c d) h = (lit< tt, lit< tt)
fits kind a (Leds g mask) h = (lit< tt, lit< tt)
fits kind a (BlindStatus n b c d e f g) h = (lit< tt, lit< tt)
fits kind a (BlindStop n) h = (lit< tt, lit< tt)
fits kind a (BlindUp n t) h = (lit< tt, timed-short kind n t h)
fits kind a (BlindDown n t) h = (lit< tt, timed-short kind n t h)

-- every type whose type frame has so many bytes has a number in the table
abbrev numbers : List Numbered → ℕ → ℕ → ℕ → Row → Bool
numbers ls size kind c r = not (eqb size r.0) || (not (eqb c type_command) || ltb (number_in ls kind) no_message)

type_numbered : (ls : List Numbered) (size : ℕ) → everywhere (numbers ls size) ≡ true → ((kind c : ℕ) → numbers ls size kind c no_row ≡ true) → (k : ℕ) → eqb size (row_for k type_command).0 ≡ true → number_in ls k < no_message
type_numbered ls size t z k h =
    ltb-true (number_in ls k) no_message
    (or_right (not (eqb size (row_for k type_command).0)) (ltb (number_in ls k) no_message) (of_any (numbers ls size) t z k type_command) (ap not h))

long_numbered : (k : ℕ) → eqb long_type (row_for k type_command).0 ≡ true → number_in long_types k < no_message
unfolding number_in
long_numbered = type_numbered long_types long_type refl (λ k c. refl)

short-numbered : (k : ℕ) → eqb short_type (row_for k type_command).0 ≡ true → number_in short_types k < no_message
unfolding number_in
short-numbered = type_numbered short_types short_type refl (λ k c. refl)

numbered : (a : Address) (m : Command) → type_fits (data_of (encode m)) ≡ true → (command_parts a m).what < no_message
unfolding command_parts
numbered a (TypeLong k b c d e f) h = long_numbered k h
numbered a (TypeShort k b c d) h = short-numbered k h
numbered a (Buttons b c d) h = lit< tt
numbered a (CellTold l v) h = lit< tt
numbered a (BlockTold l b c d e) h = lit< tt
numbered a (CellAsked l) h = lit< tt
numbered a (BlockAsked l) h = lit< tt
numbered a DumpAsked h = lit< tt
numbered a (CellSet l v) h = lit< tt
numbered a (BlockSet l b c d e) h = lit< tt
numbered a (Errors b c d) h = lit< tt
numbered a ErrorsAsked h = lit< tt
numbered a (NameOne n b c d e f g) h = lit< tt
numbered a (NameTwo n b c d e f g) h = lit< tt
numbered a (NameThree n b c d e) h = lit< tt
numbered a (NameAsked n) h = lit< tt
numbered a (StatusAsked n) h = lit< tt
numbered a (InputStatus b c d e) h = lit< tt
numbered a (LedsAll b c d) h = lit< tt
numbered a (Leds g mask) h = lit< tt
numbered a (BlindStatus n b c d e f g) h = lit< tt
numbered a (BlindStop n) h = lit< tt
numbered a (BlindUp n t) h = lit< tt
numbered a (BlindDown n t) h = lit< tt

fitting_command : (a : Address) (m : Command) → (command_parts a m).what < no_message → Fits a m → Fitting a (Tells m)
unfolding parts_of
fitting_command a m n f = record { numbered = n; location = f.0; seconds = f.1 }

fitting_request : (a : Address) → Fitting a TypeRequest
unfolding parts_of
fitting_request a = record { numbered = lit< tt; location = lit< tt; seconds = lit< tt }

written-fits : (kind : ℕ) (a : Address) (m : Message) (f : Frame) → writing kind a m ≡ Ok f → Fitting a m
written-fits kind a TypeRequest f h = fitting_request a
written-fits kind a (Tells m) f h =
    let own : ℕ = own_type kind (data_of (encode m)) in
    let l = written_lawful kind a m f h in
    fitting_command a m (numbered a m l.fits) (fits own a m (eqb-true (fault own m) 0 l.allowed))

-- A message laid into a buffer stands at its front.

laid-size : (a : Address) (m : Message) → length (laid_bytes (parts_of a m)) ≡ message_size
unfolding laid_bytes
laid-size a m = refl

laid_front :
    (a : Address) (m : Message) (out : List ℕ) → message_size ≤ length out → copied_in out 0 (laid_bytes (parts_of a m)) ≡ laid_bytes (parts_of a m) ++ drop message_size out
laid_front a m out h =
    let n = laid-size a m in
    let fit : length (laid_bytes (parts_of a m)) ≤ length out = rw n h in
    copied_all out 0 (laid_bytes (parts_of a m)) (omega arith)
    ∙ sets_front out (laid_bytes (parts_of a m)) fit
    ∙ ap (λ (k : ℕ). laid_bytes (parts_of a m) ++ drop k out) n

-- velbus_write goes by the message that the bytes hold
word-by : (kind : ℕ) (message : List ℕ) (room : ℕ) → message_size ≤ length message → write_word kind message room ≡ held_word kind (held_in message) room
unfolding write_word
word-by kind message room h = rw (le-ltb (length message) message_size h)

into_by : (kind : ℕ) (message out : List ℕ) → message_size ≤ length message → write_into kind message out ≡ held_into kind (held_in message) out
unfolding write_into
into_by kind message out h = rw (le-ltb (length message) message_size h)

-- a laid-out message that is written, whatever stands after it
module _ (kind : ℕ) (a : Address) (m : Message) (f : Frame) (after out : List ℕ) (h : writing kind a m ≡ Ok f) where
  abbrev buffer : List ℕ
  buffer = laid_bytes (parts_of a m) ++ after

  holds : held_in buffer ≡ Some (a, m)
  holds = laid_is_held a m after (written-fits kind a m f h)

  enough : message_size ≤ length buffer
  enough = omega (arith, length-append (laid_bytes (parts_of a m)) after, laid-size a m)

  written-word : write_word kind buffer (length out) ≡ room_word (length out) frame_size
  written-word = word-by kind buffer (length out) enough ∙ rw (holds, h)

  written_into_lem : write_into kind buffer out ≡ copied_in out 0 (frame_bytes f)
  written_into_lem = into_by kind buffer out enough ∙ rw (holds, h)

pub read_then_written_again : ReadThenWrittenAgain
read_then_written_again kind i remote s message out a m small room h =
    let g = read_then_written kind i remote s a m small h in
    let e : read_into (reading kind i remote s) message ≡ laid_bytes (parts_of a m) ++ drop message_size message = rw h (laid_front a m message room) in
    rw e
    (record {
      frame = g.frame;
      word = written-word kind a m g.frame (drop message_size message) out g.given;
      buffer = written_into_lem kind a m g.frame (drop message_size message) out g.given;
      same_identifier = g.same_identifier;
      same_remote = g.same_remote;
      same_data = g.same_data;
    })

pub laid_is_read_back : LaidIsReadBack
laid_is_read_back kind a m f after out back small h =
    let r = written_then_read kind a m f small h in
    record {
      word = written-word kind a m f after out h;
      buffer = written_into_lem kind a m f after out h;
      read = rw r;
      same = rw r;
    }
