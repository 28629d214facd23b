-- The number of a reading, and the reading that a number stands for.
--     behind             the bytes of a frame behind a command
--     by_row_lem         the fields decide where the row has nothing against a frame
--     frame_number       what the frame is refused for, whatever it says
--     request_number     what a remote frame is refused for
--     command-number     what a frame with data is refused for
--     refused_as         a number that is not 0 is the refusal's
--     read_request       number 0 and a remote frame: the type request
--     read_told          number 0 and a frame with data: its message
--     accepted_as        number 0: the frame's address, with the type request or the message of the bytes
-- Assumes nothing.
use Rattle.std.specs.Prelude.{Ok, Err}
use Prim.Native.Nat.{ℕ}
use mathlib.Core.Path.{◌≡◌, refl, sym, ap, ◌∙◌}
use mathlib.Core.List.{List, [], ◌∷◌}
use mathlib.Core.Bool.{Bool, true, false, cond}
use lib.ListN.{length}
use lib.Dec.{eqb}
use borrow.Author.Tests.{eqb-true, eqb-false, eq-eqb, ne_eqb}
use Rattle.laws.specs.Refusals.{not_listed, wrong_length, wrong_priority}
use Rattle.laws.specs.Tests.{unless, unless_refused}
use Rattle.frame.specs.Identifiers.{priority_of, address_of}
use Rattle.kinds.specs.Types.{row_for, is_listed}
use Rattle.frame.specs.Bytes.{data_of, bytes_of}
use Rattle.frame.specs.Messages.{decode}
use Rattle.fields.specs.Fields.{field_refusal}
use Rattle.judging.specs.Reading.{frame_refusal, by_row, command_refusal, request_refusal, request_read, command_read, reading, reading_number, Reading}
use Rattle.frame.specs.declared.bytes.Data.{Data}
use Rattle.frame.specs.declared.identifiers.Address.{Address}
use Rattle.frame.specs.declared.messages.Command.{Command}
use Rattle.frame.specs.declared.messages.Message.{Message}
use Rattle.frame.specs.declared.messages.Message.TheVariants.{TypeRequest, Tells}

-- the bytes of d behind the command c
abbrev pub behind : ℕ → Data → List ℕ
behind c d = c ∷ d.2 ∷ d.3 ∷ d.4 ∷ d.5 ∷ d.6 ∷ d.7 ∷ d.8 ∷ []

pub by_row_lem :
    (kind c count priority fault : ℕ) →
    by_row kind c count priority fault ≡ cond (eqb (by_row kind c count priority 0) 0) (field_refusal fault) (by_row kind c count priority 0)
by_row_lem kind c count priority fault = go (is_listed kind c) (eqb count (row_for kind c).0) (eqb priority (row_for kind c).1)
  where
    chain : (a b p : Bool) → ℕ → ℕ
    chain a b p later = unless a not_listed (unless b wrong_length (unless p wrong_priority later))

    go : (a b p : Bool) → chain a b p (field_refusal fault) ≡ cond (eqb (chain a b p 0) 0) (field_refusal fault) (chain a b p 0)
    go false b p = refl
    go true false p = refl
    go true true false = refl
    go true true true = refl

pub refused_as : (r : Reading) {n : ℕ} → n ≡ reading_number r → (n ≡ 0 → ⊥) → Err n ≡ r
refused_as (Ok (a, m)) e h = absurd (h e)
refused_as (Err k) e h = ap Err e

-- an answer whose number is 0 was not refused
unrefused_at : (n : ℕ) (answer : Reading) → reading_number (unless_refused Err n answer) ≡ 0 → unless_refused Err n answer ≡ answer
unrefused_at n answer = go (eqb n 0) refl
  where
    go : (b : Bool) → eqb n 0 ≡ b → reading_number (cond b answer (Err n)) ≡ 0 → cond b answer (Err n) ≡ answer
    go true q z = refl
    go false q z = absurd (eqb-false n 0 q z)

-- a frame that passed its own tests, and then its remote flag's
passed :
    (remote n m : ℕ) (request told : Reading) →
    reading_number (cond (eqb remote 1) (unless_refused Err n request) (unless_refused Err m told)) ≡ 0 →
    cond (eqb remote 1) (unless_refused Err n request) (unless_refused Err m told) ≡ cond (eqb remote 1) request told
passed remote n m request told = go (eqb remote 1)
  where
    go :
        (b : Bool) →
        reading_number (cond b (unless_refused Err n request) (unless_refused Err m told)) ≡ 0 →
        cond b (unless_refused Err n request) (unless_refused Err m told) ≡ cond b request told
    go true z = unrefused_at n request z
    go false z = unrefused_at m told z

pub accepted_as :
    (kind identifier remote : ℕ) (s : List ℕ) →
    reading_number (reading kind identifier remote s) ≡ 0 →
    reading kind identifier remote s
    ≡ cond (eqb remote 1) (Ok (address_of identifier, TypeRequest)) (Ok (address_of identifier, Tells (decode (bytes_of (data_of s)))))
unfolding reading request_read command_read
accepted_as kind identifier remote s z =
    let p : ℕ = priority_of identifier in
    let m : Command = decode (bytes_of (data_of s)) in
    let framed = unrefused_at (frame_refusal kind identifier remote (length s)) _ z in
    framed ∙ passed remote (request_refusal p) (command_refusal kind p (data_of s) m) _ _ (sym (ap reading_number framed) ∙ z)

number_of : (n : ℕ) (a : Address) (m : Message) → reading_number (unless_refused Err n (Ok (a, m))) ≡ n
number_of n a m = go (eqb n 0) (eqb-true n 0)
  where
    go : (b : Bool) → (b ≡ true → n ≡ 0) → reading_number (cond b (Ok (a, m)) (Err n)) ≡ n
    go true q = sym (q refl)
    go false q = refl

module _ (kind identifier remote : ℕ) (s : List ℕ) {n : ℕ} where
  pub frame_number : n ≡ frame_refusal kind identifier remote (length s) → (n ≡ 0 → ⊥) → n ≡ reading_number (reading kind identifier remote s)
  unfolding reading
  frame_number e h = rw (← e, ne_eqb n 0 h)

  pub request_number :
      n ≡ frame_refusal kind identifier remote (length s) →
      n ≡ 0 →
      remote ≡ 1 →
      {r : ℕ} →
      r ≡ request_refusal (priority_of identifier) →
      r ≡ reading_number (reading kind identifier remote s)
  unfolding reading request_read
  request_number e z q {r} h = rw (← e, eq-eqb n 0 z, eq-eqb remote 1 q, ← h) (sym (number_of r (address_of identifier) TypeRequest))

  pub command-number :
      n ≡ frame_refusal kind identifier remote (length s) →
      n ≡ 0 →
      (remote ≡ 1 → ⊥) →
      {r : ℕ} →
      r ≡ command_refusal kind (priority_of identifier) (data_of s) (decode (bytes_of (data_of s))) →
      r ≡ reading_number (reading kind identifier remote s)
  unfolding reading command_read
  command-number e z q {r} h =
      rw (← e, eq-eqb n 0 z, ne_eqb remote 1 q, ← h) (sym (number_of r (address_of identifier) (Tells (decode (bytes_of (data_of s))))))

  pub read_request :
      n ≡ reading_number (reading kind identifier remote s) →
      n ≡ 0 →
      remote ≡ 1 →
      {a : Address} →
      a ≡ address_of identifier →
      Ok (a, TypeRequest) ≡ reading kind identifier remote s
  read_request e z q h = rw (accepted_as kind identifier remote s (sym e ∙ z), eq-eqb remote 1 q, h)

  pub read_told :
      n ≡ reading_number (reading kind identifier remote s) →
      n ≡ 0 →
      (remote ≡ 1 → ⊥) →
      {a : Address} {m : Message} →
      a ≡ address_of identifier →
      m ≡ Tells (decode (bytes_of (data_of s))) →
      Ok (a, m) ≡ reading kind identifier remote s
  read_told e z q h t = rw (accepted_as kind identifier remote s (sym e ∙ z), ne_eqb remote 1 q, h, t)
