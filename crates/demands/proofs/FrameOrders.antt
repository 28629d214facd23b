-- The orders of the reader and of the writer.
--     reader_order_lem       any view of what is read goes by the reader's order, with what it tests last of FF
--     reads, writes      the reader's and the writer's own verdicts
-- Assumes nothing.
use Rattle.std.specs.Prelude.{Ok, Err}
use Prim.Native.Nat.{ℕ}
use mathlib.Core.Path.{◌≡◌, refl, ap, ◌∙◌}
use mathlib.Core.List.{List, [], ◌∷◌, ◌++◌}
use mathlib.Core.Bool.{Bool, true, false, not, cond}
use lib.Dec.{eqb, leb}
use lib.ListN.{length}
use native.Mathlib.Omega.{arith}
use borrow.Author.Tests.{eqb-true, ne_eqb, le-leb}
use Rattle.laws.specs.Refusals.{bad_type, type_not_known, not_listed, wrong_length, bad_field, code_at}
use Rattle.laws.specs.Tests.{among, unless, unless_refused}
use Rattle.laws.proofs.Keys.{for_each}
use Rattle.frame.specs.Identifiers.{priority_of, address_of}
use Rattle.kinds.specs.Types.{no_type, module_types, handed_types, rows_of, row_for, is_listed}
use Rattle.frame.specs.Bytes.{byte, data_of}
use Rattle.frame.specs.Messages.{type_command}
use Rattle.codec.specs.Encoding.{encode}
use Rattle.fields.specs.Fields.{fault}
use Rattle.judging.specs.Reading.{row_refusal, reading, request_read, command_read, Reading}
use Rattle.codec.specs.Writing.{handed_refusal, write_refusal, command_frame, writing, command_written, written_as, Writing}
use Rattle.frame.specs.declared.identifiers.Address.{Address}
use Rattle.frame.specs.declared.messages.Command.{Command}
use Rattle.frame.specs.declared.messages.Message.{Message}
use Rattle.frame.specs.declared.messages.Message.TheVariants.{TypeRequest, Tells}
use Rattle.kinds.proofs.Listed.{listed_module, module_some}
use Rattle.places.specs.Runs.{command_of}
use Rattle.demands.specs.Order.{Test, ◌or◌, Verdict, answers, refuses, verdict, form_tests, request_tests, row_tests, type_tests, other_tests, data_tests, frame_order, reader_order, type_written, other_written, writer_order}
use Rattle.demands.specs.Demand1.{verdict_of_reading, verdict_of_writing}
use Rattle.demands.proofs.Orders.{unlesses, numbered, refused_or, either_order}

-- FF is in the list of each type, so that 6 is never given of it
type_listed : (k c : ℕ) → eqb c type_command ≡ true → among k module_types ≡ true → is_listed k c ≡ true
unfolding rows_of
type_listed k c h m = rw (eqb-true c type_command h) (for_each (λ k. is_listed k type_command) module_types refl k m)

never_six : (k c later : ℕ) → eqb c type_command ≡ true
    → unless (among k module_types) bad_type (unless (is_listed k c) not_listed later) ≡ unless (among k module_types) bad_type later
never_six k c later h = go (among k module_types) (type_listed k c h)
  where
    go : (b : Bool) → (b ≡ true → is_listed k c ≡ true) → unless b bad_type (unless (is_listed k c) not_listed later) ≡ unless b bad_type later
    go true l = rw (l refl)
    go false l = refl

-- a refusal of 9 is none of 0
nine_numbered : (fault : ℕ) → leb 1 (code_at bad_field fault) ≡ true
nine_numbered fault = le-leb 1 (code_at bad_field fault) (omega arith)

-- ---- the reader
module _ (of : Reading → Verdict) (same : (n : ℕ) → of (Err n) ≡ refuses n) (last : List Test) (kind identifier remote : ℕ) (s : List ℕ) where
  abbrev tells : Reading
  tells = Ok (address_of identifier, Tells (command_of s))

  abbrev row : ℕ → ℕ
  row k = row_refusal k (priority_of identifier) (data_of s) (command_of s)

  command_order : (eqb (byte 1 s) type_command ≡ true → of tells ≡ verdict last) → (eqb (byte 1 s) type_command ≡ false → of tells ≡ answers)
      → of (command_read kind (priority_of identifier) (address_of identifier) (data_of s)) ≡ verdict (data_tests last kind identifier s)
  unfolding command_read
  command_order f g = go (eqb (byte 1 s) type_command) refl
    where
      go : (c : Bool) → eqb (byte 1 s) type_command ≡ c
          → of (unless_refused Err (cond c
          (unless (leb 2 (length s)) wrong_length (unless (among (cond c (byte 2 s) kind) module_types) bad_type (row (cond c (byte 2 s) kind))))
          (unless (not (eqb kind no_type)) type_not_known (row (cond c (byte 2 s) kind)))) tells)
          ≡ verdict (cond c (type_tests identifier s ++ last) (other_tests kind identifier s))
      go true q =
          ap (λ (later : ℕ). of (unless_refused Err (unless (leb 2 (length s)) wrong_length later) tells))
          (never_six (byte 2 s) (byte 1 s) (unlesses (row_tests (byte 2 s) identifier s)) q)
          ∙ refused_or of Err same (type_tests identifier s) last (rw (nine_numbered (fault (byte 2 s) (command_of s)))) tells (f q)
      go false q = refused_or of Err same (other_tests kind identifier s) [] (rw (nine_numbered (fault kind (command_of s)))) tells (g q)

  pub reader_order_lem : of (Ok (address_of identifier, TypeRequest)) ≡ answers
      → (eqb (byte 1 s) type_command ≡ true → of tells ≡ verdict last) → (eqb (byte 1 s) type_command ≡ false → of tells ≡ answers)
      → of (reading kind identifier remote s) ≡ verdict (frame_order last kind identifier remote s)
  unfolding reading request_read
  reader_order_lem e f g =
      refused_or of Err same (form_tests kind identifier remote s)
      (cond (eqb remote 1) (request_tests identifier) (data_tests last kind identifier s)) refl _
      (either_order of (request_read (priority_of identifier) (address_of identifier)) (command_read kind (priority_of identifier) (address_of identifier) (data_of s))
      (request_tests identifier) (data_tests last kind identifier s)
      (refused_or of Err same (request_tests identifier) [] refl (Ok (address_of identifier, TypeRequest)) e)
      (command_order f g)
      (eqb remote 1))

pub reads : (kind identifier remote : ℕ) (s : List ℕ) → verdict_of_reading (reading kind identifier remote s) ≡ verdict (reader_order kind identifier remote s)
reads kind identifier remote s = reader_order_lem verdict_of_reading (λ n. refl) [] kind identifier remote s refl (λ q. refl) (λ q. refl)

-- ---- the writer
begun_nonempty : (s : List ℕ) → eqb (byte 1 s) type_command ≡ true → length s ≡ 0 → ⊥
begun_nonempty [] q e = let z : ◌≡◌ {A = ℕ} 0 1 = cc in omega arith
begun_nonempty (x ∷ s) q e = omega arith

module _ (kind : ℕ) (a : Address) (m : Command) where
  abbrev first : ℕ
  first = byte 1 (encode m)

  abbrev second : ℕ
  second = byte 2 (encode m)

  -- FF of the right length has a type, and is in its list
  only_nine : eqb first type_command ≡ true → write_refusal second (data_of (encode m)) m ≡ unlesses (type_written m)
  only_nine q = rw (eqb-true first type_command q) (go (eqb (length (encode m)) (row_for second type_command).0) (eqb-true (length (encode m)) (row_for second type_command).0))
    where
      nine : ℕ
      nine = unless (eqb (fault second m) 0) (code_at bad_field (fault second m)) 0

      go : (c : Bool) → (c ≡ true → length (encode m) ≡ (row_for second type_command).0)
          → unless c bad_type (unless (not (eqb second no_type)) type_not_known (unless (is_listed second type_command) not_listed nine)) ≡ unless c bad_type nine
      go true h =
          let l : is_listed second type_command ≡ true = rw (ne_eqb (row_for second type_command).0 0 (λ z. begun_nonempty (encode m) q (h refl ∙ z))) in
          rw (module_some second (listed_module second type_command l), l)
      go false h = refl

  abbrev written : ℕ → Writing
  written own = Ok (command_frame own a (data_of (encode m)))

  -- a bad handed-in type, and then other tests
  handed-then : (own : ℕ) (ts : List Test) → numbered ts ≡ true
      → verdict_of_writing (unless_refused Err (handed_refusal kind (unlesses ts)) (written own)) ≡ verdict ((among kind handed_types or bad_type ∷ ts) ++ [])
  handed-then own ts h = refused_or verdict_of_writing Err (λ n. refl) (among kind handed_types or bad_type ∷ ts) [] h (written own) refl

  command_writes : (c : Bool) → eqb first type_command ≡ c
      → verdict_of_writing (unless_refused Err (handed_refusal kind (write_refusal (cond c second kind) (data_of (encode m)) m)) (written (cond c second kind)))
      ≡ verdict (among kind handed_types or bad_type ∷ cond c (type_written m) (other_written kind m))
  command_writes true q =
      ap (λ (later : ℕ). verdict_of_writing (unless_refused Err (handed_refusal kind later) (written second))) (only_nine q)
      ∙ handed-then second (type_written m) (rw (nine_numbered (fault second m)))
  command_writes false q =
      let all : write_refusal kind (data_of (encode m)) m ≡ unlesses (other_written kind m) = rw q in
      ap (λ (later : ℕ). verdict_of_writing (unless_refused Err (handed_refusal kind later) (written kind))) all ∙ handed-then kind (other_written kind m) (rw (nine_numbered (fault kind m)))

pub writes : (kind : ℕ) (a : Address) (m : Message) → verdict_of_writing (writing kind a m) ≡ verdict (writer_order kind m)
unfolding writing command_written written_as
writes kind a TypeRequest = refused_or verdict_of_writing Err (λ n. refl) (writer_order kind TypeRequest) [] refl _ refl
writes kind a (Tells m) = command_writes kind a m (eqb (byte 1 (encode m)) type_command) refl
