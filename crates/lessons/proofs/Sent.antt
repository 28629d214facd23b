-- The replies as frames: each is one that the writer accepts, lies in its twelve bytes of the buffer, and reads back as itself.
-- Assumes nothing.
use Rattle.std.specs.Prelude.{Ok, Err}
use Prim.Native.Nat.{ℕ, zero, suc, ◌+◌, ◌*◌, ◌/◌, ◌%◌, ◌≤◌, ◌<◌}
use native.Mathlib.Omega.{arith}
use mathlib.Core.Path.{◌≡◌, refl, ap, ◌∙◌}
use mathlib.Core.Bool.{true}
use mathlib.Core.List.{List, [], ◌∷◌, ◌++◌, append_assoc}
use lib.ListN.{length, drop, length-append}
use lib.Seq.{sets, sets-eq, take_at, drop_at}
use borrow.Author.Tests.{le-leb}
use Rattle.laws.specs.Tests.{among}
use Rattle.laws.proofs.Testing.{unrefused_is}
use Rattle.kinds.specs.Types.{vmb8ir, line_of, rows_of, row_for, is_listed, handed_types}
use Rattle.frame.specs.Bytes.{data_of}
use Rattle.fields.specs.Fields.{fault, block_fault, asked_allowed}
use Rattle.frame.specs.declared.bytes.Data.{Data}
use Rattle.frame.specs.declared.identifiers.Address.{Address}
use Rattle.frame.specs.declared.messages.Location.{Location}
use Rattle.frame.specs.declared.messages.Command.{Command}
use Rattle.frame.specs.declared.messages.Command.TheVariants.{TypeLong, TypeShort, Buttons, CellTold, BlockTold, CellAsked, BlockAsked, DumpAsked, CellSet, BlockSet, Errors, ErrorsAsked, NameOne, NameTwo, NameThree, NameAsked, StatusAsked, InputStatus, LedsAll, Leds, BlindStatus, BlindStop, BlindUp, BlindDown}
use Rattle.frame.specs.declared.messages.Message.TheVariants.{Tells}
use Rattle.judging.specs.Reading.{reading, own_type}
use Rattle.codec.specs.Encoding.{encode}
use Rattle.codec.specs.Writing.{handed_refusal, type_fits, write_refusal, command_frame, written_as, command_written, writing}
use Rattle.codec.specs.declared.writer.Frame.{Frame}
use Rattle.codec.proofs.RoundTrip.{written_then_read}
use mathlib.Core.Option.{some}
use Rattle.places.specs.Runs.{names, meaning_of}
use Rattle.history.specs.Standing.{sense}
use Rattle.history.specs.Standing as history
use Rattle.lessons.proofs.Doing.{run_of}
use Rattle.replies.specs.Bench.{cell}
use Rattle.replies.specs.Replies.{dump, answers}
use Rattle.bench.specs.Sending.{reply_bytes, all_bytes}
use Rattle.bench.proofs.Storing.{twelve_long}
use Rattle.lessons.specs.Hearing.{frame_in, frames_in}

-- the address, and the frame of a command
abbrev pub at : ℕ → Address
at a = record { 0 = a }

abbrev sent_as : ℕ → Command → Frame
sent_as a m = command_frame vmb8ir (at a) (data_of (encode m))

-- A command that the writer accepts under the type that is handed in, of low priority and of no more than eight bytes.

pub record Sends (kind a : ℕ) (m : Command) : Type 0 where
  pub given : writing kind (at a) (Tells m) ≡ Ok (sent_as a m)
  pub low : (row_for vmb8ir (data_of (encode m)).1).1 ≡ 3
  pub short : length (encode m) ≤ 8
  pub heard : sense (some vmb8ir) (meaning_of vmb8ir m) ≡ names (run_of m)

sends : (kind a : ℕ) (m : Command) → among kind handed_types ≡ true → own_type kind (data_of (encode m)) ≡ vmb8ir → type_fits (data_of (encode m)) ≡ true → is_listed vmb8ir (data_of (encode m)).1 ≡ true
    → (row_for vmb8ir (data_of (encode m)).1).1 ≡ 3 → length (encode m) ≤ 8 → fault vmb8ir m ≡ 0 → sense (some vmb8ir) (meaning_of vmb8ir m) ≡ names (run_of m) → Sends kind a m
unfolding writing command_written written_as
sends kind a m hk own fits listed low short free heard =
    let d : Data = data_of (encode m) in
    let z : handed_refusal kind (write_refusal vmb8ir d m) ≡ 0 = rw (hk, fits, listed, free) in
    record {
      given = rw own (unrefused_is Err (handed_refusal kind (write_refusal vmb8ir d m)) (Ok (sent_as a m)) z);
      low = low;
      short = short;
      heard = heard;
    }

abbrev pub AllSend : ℕ → List Command → Type 0
AllSend a [] = Unit {0}
AllSend a (m ∷ ms) = Sends vmb8ir a m × AllSend a ms

module _ (a : ℕ) where
  block_sends : (l : Location) (v w x y : ℕ) → block_fault vmb8ir l ≡ 0 → Sends vmb8ir a (BlockTold l v w x y)
  unfolding rows_of meaning_of sense
  block_sends l v w x y h = sends vmb8ir a (BlockTold l v w x y) refl refl refl refl refl (omega arith) h refl

  block-free : (l : ℕ) → l ≤ 252 → block_fault vmb8ir (record { 0 = l }) ≡ 0
  unfolding line_of
  block-free l h = rw (le-leb (l / 256) 0 (omega arith), le-leb l 252 h)

  dump_sends : (b : List ℕ) (l n : ℕ) → l + 4 * n ≤ 256 → AllSend a (dump b l n)
  unfolding dump
  dump_sends b l zero h = tt
  dump_sends b l (suc n) h =
      (block_sends (record { 0 = l }) (cell b l) (cell b (l + 1)) (cell b (l + 2)) (cell b (l + 3)) (block-free l (omega arith)), dump_sends b (l + 4) n (omega arith))

  pub type_sends : (kind s t v y w : ℕ) → among kind handed_types ≡ true → Sends kind a (TypeLong vmb8ir s t v y w)
  unfolding rows_of meaning_of sense
  type_sends kind s t v y w h = sends kind a (TypeLong vmb8ir s t v y w) h refl refl refl refl (omega arith) refl refl

  one_sends : (n p q r s t u : ℕ) → fault vmb8ir (NameAsked n) ≡ 0 → Sends vmb8ir a (NameOne n p q r s t u)
  unfolding rows_of line_of asked_allowed meaning_of sense
  one_sends n p q r s t u h = sends vmb8ir a (NameOne n p q r s t u) refl refl refl refl refl (omega arith) h refl

  two_sends : (n p q r s t u : ℕ) → fault vmb8ir (NameAsked n) ≡ 0 → Sends vmb8ir a (NameTwo n p q r s t u)
  unfolding rows_of line_of asked_allowed meaning_of sense
  two_sends n p q r s t u h = sends vmb8ir a (NameTwo n p q r s t u) refl refl refl refl refl (omega arith) h refl

  three_sends : (n p q r s : ℕ) → fault vmb8ir (NameAsked n) ≡ 0 → Sends vmb8ir a (NameThree n p q r s)
  unfolding rows_of line_of asked_allowed meaning_of sense
  three_sends n p q r s h = sends vmb8ir a (NameThree n p q r s) refl refl refl refl refl (omega arith) h refl

  -- two commands that it takes
  pub dump-asked : Sends vmb8ir a DumpAsked
  unfolding rows_of meaning_of sense
  dump-asked = sends vmb8ir a DumpAsked refl refl refl refl refl (omega arith) refl refl

  pub status-asked : (x : ℕ) → Sends vmb8ir a (StatusAsked x)
  unfolding rows_of line_of meaning_of sense
  status-asked x = sends vmb8ir a (StatusAsked x) refl refl refl refl refl (omega arith) refl refl

  -- the replies to a command whose fields are allowed
  pub answers_send : (b : List ℕ) (m : Command) → fault vmb8ir m ≡ 0 → AllSend a (answers b m)
  unfolding rows_of meaning_of sense
  answers_send b (CellAsked l) h = (sends vmb8ir a (CellTold l (cell b l.0)) refl refl refl refl refl (omega arith) h refl, tt)
  answers_send b (BlockAsked l) h = (block_sends l _ _ _ _ h, tt)
  answers_send b (BlockSet l v w x y) h = (block_sends l _ _ _ _ h, tt)
  answers_send b DumpAsked h = dump_sends b 0 64 (omega arith)
  answers_send b (NameAsked n) h = (one_sends n _ _ _ _ _ _ h, (two_sends n _ _ _ _ _ _ h, (three_sends n _ _ _ _ h, tt)))
  answers_send b (StatusAsked x) h = (sends vmb8ir a (InputStatus 0 _ _ _) refl refl refl refl refl (omega arith) refl refl, tt)
  answers_send b ErrorsAsked h = (sends vmb8ir a (Errors 0 0 0) refl refl refl refl refl (omega arith) refl refl, tt)
  answers_send b (TypeLong k s w c d e) h = tt
  answers_send b (TypeShort k s w c) h = tt
  answers_send b (Buttons s w c) h = tt
  answers_send b (CellTold l v) h = tt
  answers_send b (BlockTold l s w c d) h = tt
  answers_send b (CellSet l v) h = tt
  answers_send b (Errors s w c) h = tt
  answers_send b (NameOne n s w c d e f) h = tt
  answers_send b (NameTwo n s w c d e f) h = tt
  answers_send b (NameThree n s w c d) h = tt
  answers_send b (InputStatus s w c d) h = tt
  answers_send b (LedsAll s w c) h = tt
  answers_send b (Leds g x) h = tt
  answers_send b (BlindStatus n s w c d e f) h = tt
  answers_send b (BlindStop n) h = tt
  answers_send b (BlindUp n t) h = tt
  answers_send b (BlindDown n t) h = tt

-- The frames that lie in the buffer.

unfoldable pub sent_all : ℕ → List Command → List history.Frame
sent_all a [] = []
sent_all a (m ∷ ms) = frame_in (reply_bytes a m) ∷ sent_all a ms

one_front : (p q rest : List ℕ) (n : ℕ) → length p ≡ 12 → frames_in (suc n) ((p ++ q) ++ rest) ≡ frame_in p ∷ frames_in n (q ++ rest)
unfolding frames_in
one_front p q rest n h =
    rw (append_assoc p q rest)
    (ap (λ (s : List ℕ). frame_in s ∷ frames_in n (drop 12 (p ++ (q ++ rest)))) (take_at p (q ++ rest) 12 h) ∙ ap (λ (s : List ℕ). frame_in p ∷ frames_in n s) (drop_at p (q ++ rest) 12 h))

sent_front : (a : ℕ) (ms : List Command) (rest : List ℕ) → frames_in (length ms) (all_bytes a ms ++ rest) ≡ sent_all a ms
unfolding all_bytes sent_all frames_in
sent_front a [] rest = refl
sent_front a (m ∷ ms) rest =
    one_front (reply_bytes a m) (all_bytes a ms) rest (length ms) (twelve_long a m) ∙ ap (λ (l : List history.Frame). frame_in (reply_bytes a m) ∷ l) (sent_front a ms rest)

all_long : (a : ℕ) (ms : List Command) → length (all_bytes a ms) ≡ 12 * length ms
unfolding all_bytes
all_long a [] = refl
all_long a (m ∷ ms) = length-append (reply_bytes a m) (all_bytes a ms) ∙ omega (arith, twelve_long a m, all_long a ms)

pub sent_there : (a : ℕ) (ms : List Command) (buffer : List ℕ) → 12 * length ms ≤ length buffer → frames_in (length ms) (sets buffer 0 (all_bytes a ms)) ≡ sent_all a ms
sent_there a ms buffer h = rw (sets-eq (all_bytes a ms) buffer 0 (omega (arith, all_long a ms))) (sent_front a ms (drop (0 + length (all_bytes a ms)) buffer))

-- What they read as.

module _ (kind a : ℕ) (m : Command) (h : a < 256) (s : Sends kind a m) (same : Sends vmb8ir a m) where
  sent : Frame
  sent = sent_as a m

  is_low : sent.identifier ≡ 512 * 3 + 2 * a
  unfolding sent
  is_low = ap (λ (p : ℕ). 512 * p + 2 * a) s.low

  whole : sent.identifier % 256 + 256 * (sent.identifier / 256 % 256) ≡ sent.identifier
  whole = rw is_low (omega arith)

  count : length (encode m) % 256 ≡ length (encode m)
  count = omega (arith, s.short)

  pub reply-reads : reading kind (frame_in (reply_bytes a m)).identifier (frame_in (reply_bytes a m)).remote (frame_in (reply_bytes a m)).bytes ≡ Ok (at a, Tells m)
  unfolding reply_bytes sent
  reply-reads = rw (same.given, whole, count) (written_then_read kind (at a) (Tells m) (sent_as a m) h s.given)

  pub reply_from : history.address (frame_in (reply_bytes a m)) ≡ a
  unfolding reply_bytes sent
  reply_from = rw (same.given, whole, is_low) (omega arith)
