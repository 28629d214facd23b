-- Every frame of every type's list is read as the message that the documents define.
-- Assumes nothing.
use Rattle.std.specs.Prelude.{Ok, Err}
use Prim.Native.Nat.{ℕ, ◌+◌, ◌*◌, ◌≤◌, ◌<◌}
use native.Mathlib.Omega.{arith}
use mathlib.Core.Path.{◌≡◌, refl, sym, ap, subst, ◌∙◌}
use mathlib.Core.List.{List}
use mathlib.Core.Bool.{Bool, true, false, ◌||◌, cond}
use lib.ListN.{length, take}
use lib.Dec.{eqb}
use borrow.Author.Tests.{eqb-true, eqb-false, eq-eqb, ne_eqb}
use Rattle.laws.specs.Limits.{AllBytes}
use Rattle.laws.specs.Refusals.{bad_field, code_at}
use Rattle.laws.specs.Tests.{unless_refused}
use Rattle.laws.proofs.Testing.{◌&◌, AllOf, not_both, nonzero, among-each}
use Rattle.frame.specs.Identifiers.{identifier_of}
use Rattle.kinds.specs.Types.{long_type, short_type, row_for, is_listed}
use Rattle.frame.specs.Bytes.{byte, data_of}
use Rattle.frame.specs.Messages.{permanent, time_of, type_command, decode}
use Rattle.fields.specs.Fields.{fault, field_refusal}
use Rattle.judging.specs.Reading.{own_type, row_refusal, command_refusal, command_read, reading}
use Rattle.frame.specs.declared.bytes.Data.{Data}
use Rattle.frame.specs.declared.identifiers.Address.{Address}
use Rattle.frame.specs.declared.messages.Time.TheVariants.{DipSwitch, Permanently, Seconds}
use Rattle.frame.specs.declared.messages.Command.{Command}
use Rattle.frame.specs.declared.messages.Command.TheVariants.{TypeLong, TypeShort}
use Rattle.frame.specs.declared.messages.Message.TheVariants.{Tells}
use Rattle.kinds.proofs.Listed.{listed_module, module_handed, row-size, row_known, row_priority}
use Rattle.frame.proofs.Commands.{type_shaped, read_commands, listed-read}
use Rattle.judging.proofs.Numbers.{behind}
use Rattle.judging.proofs.Judged.{reads_made, command-by-row}
use Rattle.codec.specs.Documented.{TimeIs, Documented}
use Rattle.codec.specs.Statements.{OfRow, ReadAs, EveryFrame}
use Rattle.codec.proofs.Shapes.{padded, Small, size, row_sized, data_again}

-- ---- the message of the bytes is the one documented for them
time_is : (n : ℕ) → n ≤ permanent → TimeIs n (time_of n)
time_is n few = go (eqb n 0) (eqb n permanent) (eqb-true n 0) (eqb-false n 0) (eqb-true n permanent) (eqb-false n permanent)
  where
    go :
        (a b : Bool) →
        (a ≡ true → n ≡ 0) →
        (a ≡ false → n ≡ 0 → ⊥) →
        (b ≡ true → n ≡ permanent) →
        (b ≡ false → n ≡ permanent → ⊥) →
        TimeIs n (cond a DipSwitch (cond b Permanently (Seconds n)))
    go true b z nz p np = z refl
    go false true z nz p np = p refl
    go false false z nz p np =
        let above = nz refl in
        let below = np refl in
        (refl, omega arith, omega arith)

abbrev Defined : ℕ → Type 0
Defined c = eqb c type_command ≡ false → (d : Data) → Small d → Documented (take (size c) (behind c d)) (decode (behind c d))

time_in_lem : (d : Data) → Small d → TimeIs (65536 * d.3 + 256 * d.4 + d.5) (time_of (65536 * d.3 + 256 * d.4 + d.5))
time_in_lem d s = time_is (65536 * d.3 + 256 * d.4 + d.5) (omega (arith, s.1, s.2, s.3))

defined_each : AllOf Defined read_commands
defined_each =
    (λ h d s. refl)
    & (λ h d s. record { high = d.2; low = d.3; bytes = refl; location = refl })
    & (λ h d s. record { high = d.2; low = d.3; bytes = refl; location = refl }) & (λ h d s. refl)
    & (λ h d s. refl) & (λ h d s. refl) & (λ h d s. refl) & (λ h d s. refl) & (λ h d s. refl)
    & (λ h d s. record { high = d.2; low = d.3; bytes = refl; location = refl })
    & (λ h d s. record { high = d.2; low = d.3; bytes = refl; location = refl }) & (λ h d s. refl)
    & (λ h d s. record { high = d.2; low = d.3; bytes = refl; location = refl })
    & (λ h d s. record { high = d.2; low = d.3; bytes = refl; location = refl }) & (λ h d s. refl)
    & (λ h d s. refl) & (λ h d s. refl) & (λ h d s. refl) & (λ h d s. refl) & (λ h d s. refl) & (λ h d s. refl)
    & (λ h d s. refl) & (λ h d s. refl) & (λ h d s. refl)
    & (λ h d s. record { high = d.3; middle = d.4; low = d.5; bytes = refl; time = time_in_lem d s })
    & (λ h d s. record { high = d.3; middle = d.4; low = d.5; bytes = refl; time = time_in_lem d s })
    & (λ h d s. not_both (sym h))
    & tt

type_defined :
    (n : ℕ) (d : Data) →
    (eqb n long_type || eqb n short_type) ≡ true →
    Documented (take n (behind type_command d)) (cond (eqb n long_type) (TypeLong d.2 d.3 d.4 d.5 d.6 d.7) (TypeShort d.2 d.3 d.4 d.5))
type_defined n d = go (eqb n long_type) (eqb n short_type) (eqb-true n long_type) (eqb-true n short_type)
  where
    go :
        (a b : Bool) →
        (a ≡ true → n ≡ long_type) →
        (b ≡ true → n ≡ short_type) →
        a || b ≡ true →
        Documented (take n (behind type_command d)) (cond a (TypeLong d.2 d.3 d.4 d.5 d.6 d.7) (TypeShort d.2 d.3 d.4 d.5))
    go true b p q e = rw (p refl)
    go false true p q e = rw (q refl)
    go false false p q e = not_both e

defined : (kind c : ℕ) (d : Data) → is_listed kind c ≡ true → (c ≡ type_command → d.2 ≡ kind) → Small d → Documented (take (row_for kind c).0 (behind c d)) (decode (behind c d))
defined kind c d h inside small = go (eqb c type_command) refl
  where
    go : (b : Bool) → eqb c type_command ≡ b → Documented (take (row_for kind c).0 (behind c d)) (decode (behind c d))
    go true e =
        let q : c ≡ type_command = eqb-true c type_command e in
        rw (← inside q, q) (type_defined (row_for d.2 type_command).0 d (type_shaped d.2 (rw (inside q, ← q) h)))
    go false e = rw (row_sized kind c h e) (among-each Defined c read_commands defined_each (listed-read kind c h) e d small)

-- ---- and is what is read
own_is : (kind : ℕ) (d : Data) → (d.1 ≡ type_command → d.2 ≡ kind) → own_type kind d ≡ kind
own_is kind d inside = go (eqb d.1 type_command) (eqb-true d.1 type_command)
  where
    go : (b : Bool) → (b ≡ true → d.1 ≡ type_command) → cond b d.2 kind ≡ kind
    go true q = inside (q refl)
    go false q = refl

module _ (kind : ℕ) (a : Address) (s : List ℕ) (ha : a.0 < 256) (small : AllBytes s) (r : OfRow kind (byte 1 s) s) where
  abbrev c : ℕ
  c = byte 1 s

  abbrev d : Data
  d = data_of s

  abbrev m : Command
  m = decode (padded s)

  abbrev p : ℕ
  p = (row_for kind c).1

  short : length s ≤ 8
  short = omega (arith, r.sized, row-size kind c)

  some : 1 ≤ length s
  some = at_least_one (row_for kind c).0 (nonzero _ r.listed) r.sized
    where
      at_least_one : (n : ℕ) → (n ≡ 0 → ⊥) → length s ≡ n → 1 ≤ length s
      at_least_one n ne e = omega arith

  all_bytes_lem : take (row_for kind c).0 (padded s) ≡ s
  all_bytes_lem = ap (λ (n : ℕ). take n (padded s)) (sym r.sized) ∙ data_again s short

  judged : command_refusal kind p d m ≡ field_refusal (fault kind m)
  judged =
      let e = own_is kind d r.own in
      command-by-row kind p d m (rw e r.listed) (rw e (eq-eqb _ _ r.sized))
      ∙ ap (λ (k : ℕ). row_refusal k p d m) e
      ∙ rw (r.listed, eq-eqb (length s) (row_for kind c).0 r.sized, eq-eqb p p refl)

  pub made : reading kind (identifier_of p a) 0 s ≡ unless_refused Err (field_refusal (fault kind m)) (Ok (a, Tells m))
  unfolding command_read
  made =
      reads_made kind p a s (module_handed kind (listed_module kind c r.listed)) (row_known kind c) (row_priority kind c) ha some short
      ∙ ap (λ (n : ℕ). unless_refused Err n (Ok (a, Tells m))) judged

  read_as_lem : ReadAs kind c a s
  read_as_lem = record {
    says = m;
    documented = subst (λ (t : List ℕ). Documented t m) all_bytes_lem (defined kind c d r.listed r.own (small 1, small 2, small 3, small 4));
    read = λ f. made ∙ rw (eq-eqb (fault kind m) 0 f);
    refused = λ f. made ∙ rw (ne_eqb (fault kind m) 0 f, ne_eqb (code_at bad_field (fault kind m)) 0 (λ z. omega arith));
  }

pub every_frame : EveryFrame
every_frame kind c a s ha small r =
    subst (λ (k : ℕ). ReadAs kind k a s) r.begins (read_as_lem kind a s ha small (subst (λ (k : ℕ). OfRow kind k s) (sym r.begins) r))
