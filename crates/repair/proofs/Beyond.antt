-- The byte of a 9 is the first byte beyond repair.
-- Assumes nothing.
use Rattle.std.specs.Prelude.{Ok, Err}
use Prim.Native.Nat.{ℕ, ◌+◌, ◌*◌, ◌/◌, ◌%◌, ◌-◌, ◌<◌}
use native.Mathlib.Omega.{arith}
use mathlib.Core.Path.{◌≡◌, refl, sym, ap, subst, ◌∙◌}
use mathlib.Core.List.{List}
use mathlib.Core.Bool.{Bool, true, false, not, ◌||◌, cond}
use lib.ListN.{length, take}
use lib.Seq.{get_or-take}
use lib.Dec.{eqb}
use borrow.Author.Tests.{eqb-true, eqb-false, eq-eqb, ne_eqb}
use Rattle.laws.specs.Limits.{AllBytes}
use Rattle.laws.specs.Refusals.{bad_field, code_at}
use Rattle.laws.specs.Tests.{among, unless, unless_refused}
use Rattle.laws.specs.Answers.{refusal_in}
use Rattle.laws.proofs.Testing.{not_both}
use Rattle.frame.specs.Identifiers.{identifier_of}
use Rattle.kinds.specs.Types.{module_types, row_for, last_cell, last_start}
use Rattle.frame.specs.Bytes.{byte, data_of}
use Rattle.frame.specs.Messages.{location_of, time_of, type_command, decode}
use Rattle.fields.specs.Fields.{location_fault, time_allowed, timed_fault, is_blind, fault, field_refusal}
use Rattle.judging.specs.Reading.{own_type, reading, reading_number}
use Rattle.kinds.proofs.Listed.{listed_module, module_some, module_handed}
use Rattle.codec.specs.Encoding.{high_of, low_of, seconds_of, encode}
use Rattle.codec.specs.Statements.{OfRow}
use Rattle.codec.specs.Writing.{handed_refusal, type_fits, write_refusal, command_frame, writing, command_written, written_as, writing_numbers, Writing}
use Rattle.codec.proofs.Everything.{made}
use Rattle.frame.specs.declared.identifiers.Address.{Address}
use Rattle.frame.specs.declared.messages.Location.{Location}
use Rattle.frame.specs.declared.messages.Time.{Time}
use Rattle.frame.specs.declared.messages.Glow.TheVariants.{Off, On, Slow, Fast, VeryFast}
use Rattle.frame.specs.declared.messages.Command.{Command}
use Rattle.frame.specs.declared.messages.Command.TheVariants.{TypeLong, TypeShort, Buttons, CellTold, BlockTold, CellAsked, BlockAsked, DumpAsked, CellSet, BlockSet, Errors, ErrorsAsked, NameOne, NameTwo, NameThree, NameAsked, StatusAsked, InputStatus, LedsAll, Leds, BlindStatus, BlindStop, BlindUp, BlindDown}
use Rattle.frame.specs.declared.messages.Message.TheVariants.{Tells}
use Rattle.repair.specs.Allowed.{lines_for, allowed}
use Rattle.repair.specs.Beyond.{BeyondRepair, Answered, FirstBeyondRepair, parts, frame_or_time}
use Rattle.repair.proofs.Mending.{first_unmet, rising, Leaves, Each, bound_each, met_all, stops, stops_in, no_choice, mended_from, mended, mended_agrees, mended_length, mended_bytes}
use Rattle.repair.proofs.Linked.{open_lines, all_ordered, timely, linked}

-- bytes that agree have the same command
same-command : (k : ℕ) (s t : List ℕ) → 0 < k → take k t ≡ take k s → byte 1 t ≡ byte 1 s
same-command k s t h e = sym (get_or-take k t 0 0 h) ∙ ap (byte 1) e ∙ get_or-take k s 0 0 h

abbrev unmet : ℕ → List ℕ → ℕ
unmet kind s = first_unmet (lines_for kind (byte 1 s)) s

-- ---- the reader
module _ (kind : ℕ) (s : List ℕ) (small : AllBytes s) (row : OfRow kind (byte 1 s) s) where
  ordered_here : rising 1 (length s) (lines_for kind (byte 1 s)) ≡ true
  ordered_here = rw row.sized (all_ordered kind (byte 1 s) row.listed)

  leaves : Each Leaves (lines_for kind (byte 1 s))
  leaves = bound_each kind (byte 1 s) open_lines

  beyond : 0 < unmet kind s → BeyondRepair kind s (unmet kind s)
  beyond z =
      let p = stops 1 (length s) (lines_for kind (byte 1 s)) s ordered_here z in
      let b = stops_in p in
      let agrees = mended_agrees leaves (unmet kind s) s z b.1 in
      record {
        behind_command = b.0;
        in_frame = b.1;
        no_choice = λ t small long e. rw (same-command (unmet kind s) s t z e) (no_choice p t e);
        mended = mended_from leaves (unmet kind s) s;
        mended_bytes = mended_bytes leaves (unmet kind s) s z b.1 small;
        mended_length = mended_length leaves (unmet kind s) s z b.1;
        mended_agrees = agrees;
        mended_allowed = rw (same-command (unmet kind s - 1) s (mended_from leaves (unmet kind s) s) (omega arith) agrees) (mended p leaves);
      }

  -- the fault is the first line that is not met
  abbrev k : ℕ
  k = fault kind (decode s)

  first : k ≡ unmet kind s
  first = linked kind (byte 1 s) s small row.listed row.own

  answered : (a : Address) → a.0 < 256 → Answered kind (byte 1 s) a s
  answered a ha =
      let met = met_all 1 (length s) (lines_for kind (byte 1 s)) s ordered_here in
      record {
        accepted = λ e. (decode s, made kind a s ha small row ∙ rw (eq-eqb k 0 (first ∙ met.1 e)));
        refused = λ e. let some : k ≡ 0 → ⊥ = λ z. not_both (sym e ∙ met.0 (sym first ∙ z)) in (
          k,
          subst (BeyondRepair kind s) (sym first) (beyond (let q = first in omega (arith, some))),
          made kind a s ha small row ∙ rw (ne_eqb k 0 some, ne_eqb (code_at bad_field k) 0 (λ z. omega arith)),
        );
      }

-- ---- the writer
-- what the frame has, and where it has nothing, byte 3 for a time that is not legal
abbrev or_time : Bool → ℕ → ℕ
or_time legal of_frame = cond (eqb of_frame 0) (unless legal 3 0) of_frame

-- with a legal time, or none, it is what the frame has
as_frame : (x : ℕ) → x ≡ or_time true x
as_frame x = go (eqb x 0) refl
  where
    go : (b : Bool) → eqb x 0 ≡ b → x ≡ cond b 0 x
    go true q = eqb-true x 0 q
    go false q = refl

location_same : (last : ℕ) (l : Location) → l.0 < 65536 → location_fault last l ≡ or_time true (location_fault last (location_of (high_of l) (low_of l)))
location_same last l h =
    let q : 256 * (l.0 / 256 % 256) + l.0 % 256 ≡ l.0 = omega arith in
    as_frame (location_fault last l) ∙ ap (λ (n : ℕ). or_time true (location_fault last (record { 0 = n }))) (sym q)

-- the bytes of a time always read as a legal one
abbrev again : ℕ → ℕ
again n = 65536 * (n / 65536 % 256) + 256 * (n / 256 % 256) + n % 256

timed-same : (kind n : ℕ) (t : Time) → timed_fault kind n t ≡ or_time (time_allowed t) (timed_fault kind n (time_of (again (seconds_of t))))
timed-same kind n t = rw (timely (again (seconds_of t)) (omega arith)) (go (is_blind kind n))
  where
    go : (b : Bool) → unless b 2 (unless (time_allowed t) 3 0) ≡ or_time (time_allowed t) (unless b 2 0)
    go true = refl
    go false = refl

same_place :
    (kind : ℕ) (m : Command)
    → type_fits (data_of (encode m)) ≡ true
    → (parts m).place < 65536
    → fault kind m ≡ or_time (time_allowed (parts m).time) (fault kind (decode (encode m)))
same_place kind (TypeLong k a b c year week) f h = let q = eqb-true 7 (row_for k type_command).0 f in rw (← q)
same_place kind (TypeShort k a year week) f h = let q = eqb-true 5 (row_for k type_command).0 f in rw (← q) (as_frame _)
same_place kind (Buttons a b c) f h = as_frame _
same_place kind (CellTold l v) f h = location_same (last_cell kind) l h
same_place kind (BlockTold l a b c d) f h = location_same (last_start kind) l h
same_place kind (CellAsked l) f h = location_same (last_cell kind) l h
same_place kind (BlockAsked l) f h = location_same (last_start kind) l h
same_place kind DumpAsked f h = refl
same_place kind (CellSet l v) f h = location_same (last_cell kind) l h
same_place kind (BlockSet l a b c d) f h = location_same (last_start kind) l h
same_place kind (Errors a b c) f h = refl
same_place kind ErrorsAsked f h = refl
same_place kind (NameOne n a b c d e g) f h = as_frame _
same_place kind (NameTwo n a b c d e g) f h = as_frame _
same_place kind (NameThree n a b c d) f h = as_frame _
same_place kind (NameAsked n) f h = as_frame _
same_place kind (StatusAsked n) f h = as_frame _
same_place kind (InputStatus a b c d) f h = refl
same_place kind (LedsAll a b c) f h = refl
same_place kind (Leds Off x) f h = refl
same_place kind (Leds On x) f h = refl
same_place kind (Leds Slow x) f h = refl
same_place kind (Leds Fast x) f h = refl
same_place kind (Leds VeryFast x) f h = refl
same_place kind (BlindStatus n a b c d e g) f h = as_frame _
same_place kind (BlindStop n) f h = as_frame _
same_place kind (BlindUp n t) f h = timed-same kind n t
same_place kind (BlindDown n t) f h = timed-same kind n t

-- what an answer is refused for, where it is the refusal's own number
refusal-of : {A : Type 0} (of : A → ℕ) (refused : ℕ → A) (x : A) → ((n : ℕ) → of (refused n) ≡ n) → of x ≡ 0 → (n : ℕ) → of (unless_refused refused n x) ≡ n
refusal-of of refused x same none n = go (eqb n 0) (eqb-true n 0)
  where
    go : (b : Bool) → (b ≡ true → n ≡ 0) → of (cond b x (refused n)) ≡ n
    go true q = none ∙ sym (q refl)
    go false q = same n

module _ (kind : ℕ) (a : Address) (m : Command) (ha : a.0 < 256) (small : AllBytes (encode m)) (row : OfRow kind (byte 1 (encode m)) (encode m)) where
  abbrev s : List ℕ
  s = encode m

  own : own_type kind (data_of s) ≡ kind
  own = go (eqb (byte 1 s) type_command) (eqb-true (byte 1 s) type_command)
    where
      go : (b : Bool) → (b ≡ true → byte 1 s ≡ type_command) → cond b (byte 2 s) kind ≡ kind
      go true q = row.own (q refl)
      go false q = refl

  fits : type_fits (data_of s) ≡ true
  fits = go (eqb (byte 1 s) type_command) (eqb-true (byte 1 s) type_command)
    where
      go : (b : Bool) → (b ≡ true → byte 1 s ≡ type_command) → (not b || eqb (length s) (row_for (byte 2 s) type_command).0) ≡ true
      go true q = eq-eqb (length s) (row_for (byte 2 s) type_command).0 (row.sized ∙ rw (row.own (q refl), q refl))
      go false q = refl

  known : among kind module_types ≡ true
  known = listed_module kind (byte 1 s) row.listed

  writes : refusal_in (writing_numbers (writing kind a (Tells m))) ≡ field_refusal (fault kind m)
  unfolding writing command_written written_as
  writes =
      let n : handed_refusal kind (write_refusal (own_type kind (data_of s)) (data_of s) m) ≡ field_refusal (fault kind m) =
      rw (module_handed kind known, own, fits, module_some kind known, row.listed) in
      refusal-of (λ (w : Writing). refusal_in (writing_numbers w)) Err (Ok (command_frame (own_type kind (data_of s)) a (data_of s))) (λ n. refl) refl
      (handed_refusal kind (write_refusal (own_type kind (data_of s)) (data_of s) m))
      ∙ n

  reads : reading_number (reading kind (identifier_of (row_for kind (byte 1 s)).1 a) 0 s) ≡ field_refusal (fault kind (decode s))
  reads = ap reading_number (made kind a s ha small row) ∙ refusal-of reading_number Err (Ok (a, Tells (decode s))) (λ n. refl) refl _

  written : (parts m).place < 65536 → refusal_in (writing_numbers (writing kind a (Tells m))) ≡ frame_or_time kind a m
  written h =
      let met = met_all 1 (length s) (lines_for kind (byte 1 s)) s (ordered_here kind s small row) in
      writes
      ∙ ap field_refusal (same_place kind m fits h)
      ∙ go (allowed kind s) (time_allowed (parts m).time) (λ e. first kind s small row ∙ met.1 e) (λ e z. not_both (sym e ∙ met.0 (sym (first kind s small row) ∙ z)))
    where
      go :
          (b legal : Bool) →
          (b ≡ true → fault kind (decode s) ≡ 0) →
          (b ≡ false → fault kind (decode s) ≡ 0 → ⊥) →
          field_refusal (or_time legal (fault kind (decode s)))
          ≡ cond b (unless legal (code_at bad_field 3) 0) (reading_number (reading kind (identifier_of (row_for kind (byte 1 s)).1 a) 0 s))
      go true true q n = rw (q refl)
      go true false q n = rw (q refl)
      go false legal q n = rw (ne_eqb (fault kind (decode s)) 0 (n refl)) (sym reads)

pub first_beyond_repair : FirstBeyondRepair
first_beyond_repair =
    record {
      read = λ kind c a s ha small row.
          subst (λ (k : ℕ). Answered kind k a s) row.begins (answered kind s small (subst (λ (k : ℕ). OfRow kind k s) (sym row.begins) row) a ha);
      written = λ kind a m ha small row h. written kind a m ha small row h;
    }
