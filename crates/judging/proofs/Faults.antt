-- What the arms of the code's judges know, turned into the definitions' answers.
--     arm, no_arm            the fault of a command that has an arm in `fault_in`, and of one that has none
--     misfitted, fitted      a frame that its row refuses, and one that its row takes
--     of_no_type, by-handed, type_missing, type_bad, by_inside     a frame with data, by the type that decides
-- Assumes nothing.
use Prim.Native.Nat.{ℕ, ◌≤◌, ◌<◌}
use mathlib.Core.Path.{◌≡◌, refl, sym, ap, ◌∙◌}
use mathlib.Core.List.{List, [], ◌∷◌}
use mathlib.Core.Bool.{Bool, true, false, ◌||◌}
use lib.Dec.{eqb}
use borrow.Author.Tests.{eqb-true, eq-eqb, ne_eqb, le-leb, lt-leb}
use Rattle.laws.specs.Refusals.{bad_type, type_not_known, wrong_length}
use Rattle.laws.specs.Tests.{among}
use Rattle.laws.proofs.Keys.{NoneOf, not_among, for_any}
use Rattle.laws.proofs.Testing.{or_right}
use Rattle.kinds.specs.Types.{no_type, module_types}
use Rattle.frame.specs.Bytes.{bytes_of}
use Rattle.frame.specs.Messages.{Reader, readers, unlisted, type_command, decode}
use Rattle.fields.specs.Fields.{fault, field_refusal}
use Rattle.judging.specs.Reading.{by_row, row_refusal, command_refusal}
use Rattle.frame.specs.declared.bytes.Data.{Data}
use Rattle.frame.specs.declared.messages.Command.{Command}
use Rattle.judging.proofs.Numbers.{behind, by_row_lem}

pub arm : (own c : ℕ) (d : Data) → d.1 ≡ c → {r : ℕ} → r ≡ field_refusal (fault own (decode (behind c d))) → r ≡ field_refusal (fault own (decode (bytes_of d)))
arm own c d e h = h ∙ ap (λ (k : ℕ). field_refusal (fault own (decode (behind k d)))) (sym e)

-- the commands with an arm; every other has no field that is not free
abbrev pub fielded : List ℕ
fielded =
    0x00 ∷ 0xFE ∷ 0xCC ∷ 0xF0 ∷ 0xF1 ∷ 0xF2 ∷ 0xEF ∷ 0xFA ∷ 0xFD ∷ 0xC9 ∷ 0xFC ∷ 0xCA ∷ 0xEC ∷ 0x04 ∷ 0x05 ∷ 0x06 ∷ type_command ∷ []

abbrev tame : ℕ → ℕ → Command → Bool
tame own c m = among c fielded || eqb (fault own m) 0

all_tame : (own : ℕ) (d : Data) → tame own d.1 (decode (bytes_of d)) ≡ true
all_tame own d = for_any (λ (r : Reader). r.command) (λ (r : Reader). r.reads (bytes_of d)) unlisted (tame own) readers refl (λ c. or-true (among c fielded)) d.1
  where
    or-true : (b : Bool) → b || true ≡ true
    or-true true = refl
    or-true false = refl

pub no_arm : (own : ℕ) (d : Data) {c : ℕ} → c ≡ d.1 → NoneOf (Unit {0}) c fielded → 0 ≡ field_refusal (fault own (decode (bytes_of d)))
no_arm own d {c} e h =
    ap field_refusal
    (sym (eqb-true (fault own (decode (bytes_of d))) 0 (or_right (among d.1 fielded) _ (all_tame own d) (ap (λ (k : ℕ). among k fielded) (sym e) ∙ not_among c fielded h))))

module _ (own p : ℕ) (d : Data) (m : Command) {c n : ℕ} (first : c ≡ d.1) (row : n ≡ by_row own c d.0 p 0) where
  misfit : n ≡ by_row own d.1 d.0 p 0
  misfit = rw (← first) row

  pub misfitted : (n ≡ 0 → ⊥) → n ≡ row_refusal own p d m
  misfitted h = rw (by_row_lem own d.1 d.0 p (fault own m), ← misfit, ne_eqb n 0 h)

  pub fitted : n ≡ 0 → {r : ℕ} → r ≡ field_refusal (fault own m) → r ≡ row_refusal own p d m
  fitted z e = rw (by_row_lem own d.1 d.0 p (fault own m), ← misfit, eq-eqb n 0 z) e

module _ (kind p : ℕ) (d : Data) (m : Command) {c : ℕ} (first : c ≡ d.1) where
  pub of_no_type : (c ≡ type_command → ⊥) → kind ≡ no_type → type_not_known ≡ command_refusal kind p d m
  of_no_type h z = rw (← first, ne_eqb c type_command h, eq-eqb kind no_type z)

  pub by-handed : (c ≡ type_command → ⊥) → (kind ≡ no_type → ⊥) → {r : ℕ} → r ≡ row_refusal kind p d m → r ≡ command_refusal kind p d m
  by-handed h z e = rw (ne_eqb d.1 type_command (λ q. h (first ∙ q)), ne_eqb kind no_type z) e

  module _ (ff : c ≡ type_command) where
    test : eqb d.1 type_command ≡ true
    test = eq-eqb d.1 type_command (sym first ∙ ff)

    pub type_missing : d.0 < 2 → wrong_length ≡ command_refusal kind p d m
    type_missing h = rw (test, lt-leb 2 d.0 h)

    module _ (two : 2 ≤ d.0) {own : ℕ} (second : own ≡ d.2) where
      pub type_bad : among own module_types ≡ false → bad_type ≡ command_refusal kind p d m
      type_bad h = rw (test, le-leb 2 d.0 two, ← second, h)

      pub by_inside : among own module_types ≡ true → {r : ℕ} → r ≡ row_refusal own p d m → r ≡ command_refusal kind p d m
      by_inside h e = rw (test, le-leb 2 d.0 two, ← second, h) e
