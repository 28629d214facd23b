-- What the type frame means, and that every other command names a run.
--     names_run           every command but the type frame names a run
--     type_by, type_told_lem  and the type frame enters its type, with its last two bytes as the build
-- Assumes nothing.
use Prim.Native.Nat.{ℕ, ◌-◌, ◌≤◌}
use native.Mathlib.Omega.{arith}
use mathlib.Core.Path.{◌≡◌, refl, ◌∙◌}
use mathlib.Core.Bool.{Bool, true, false, cond}
use mathlib.Core.List.{List, [], ◌∷◌}
use lib.Dec.{eqb}
use lib.ListN.{get_or, length}
use borrow.Author.Tests.{eqb-true, eqb-false, ne_eqb}
use Rattle.laws.specs.Tests.{among}
use Rattle.laws.proofs.Testing.{◌&◌, or_right}
use Rattle.kinds.specs.Types.{long_type, short_type, row_for, is_listed}
use Rattle.frame.specs.Bytes.{byte}
use Rattle.frame.specs.Messages.{type_command, type_frame, readers, decode}
use Rattle.frame.proofs.Commands.{type_shaped}
use Rattle.frame.specs.declared.messages.Command.{Command}
use Rattle.frame.specs.declared.messages.Command.TheVariants.{TypeLong, TypeShort}
use Rattle.places.specs.Runs.{names, enters, build_told, meaning_of, run_in, command_of}
use Rattle.places.proofs.Readers.{AllRead, read_as_lem}

abbrev bytes_by_lem : ℕ → List ℕ → List ℕ
bytes_by_lem k s = k ∷ byte 2 s ∷ byte 3 s ∷ byte 4 s ∷ byte 5 s ∷ byte 6 s ∷ byte 7 s ∷ byte 8 s ∷ []

never : {A : Type 0} → true ≡ false → A
never e = absurd (let z : ◌≡◌ {A = ℕ} 0 1 = cc in omega arith)

-- ---- the type frame, and every other
abbrev pub NotType : ℕ → Type 0
NotType c = among c (type_command ∷ []) ≡ false

pub not_type : (c : ℕ) → (c ≡ type_command → ⊥) → NotType c
not_type c n = rw (ne_eqb c type_command n)

abbrev Names : ℕ → Command → Type 0
Names kind m = meaning_of kind m ≡ names (run_in (meaning_of kind m))

readers-name : (kind : ℕ) (d : List ℕ) → AllRead NotType (Names kind) d readers
unfolding meaning_of
readers-name kind d =
    (λ n. refl) & (λ n. refl) & (λ n. refl) & (λ n. refl) & (λ n. refl) & (λ n. refl) & (λ n. refl) & (λ n. refl) & (λ n. refl)
    & (λ n. refl) & (λ n. refl) & (λ n. refl) & (λ n. refl) & (λ n. refl) & (λ n. refl) & (λ n. refl) & (λ n. refl) & (λ n. refl)
    & (λ n. refl) & (λ n. refl) & (λ n. refl) & (λ n. refl) & (λ n. refl) & (λ n. refl) & (λ n. refl) & (λ n. refl)
    & (λ n. never n)
    & tt

pub names_run : (kind : ℕ) (s : List ℕ) → NotType (byte 1 s) → meaning_of kind (command_of s) ≡ names (run_in (meaning_of kind (command_of s)))
unfolding meaning_of
names_run kind s n = read_as_lem NotType (Names kind) (bytes_by_lem (byte 1 s) s) (readers-name kind (bytes_by_lem (byte 1 s) s)) refl n

pub type_by : (s : List ℕ) {c : ℕ} → c ≡ byte 1 s → c ≡ type_command → command_of s ≡ type_frame s
type_by s e q = rw (← e, q)

-- a type frame has seven bytes or five
two_shapes : (kind : ℕ) → is_listed kind type_command ≡ true → ((row_for kind type_command).0 ≡ long_type → ⊥) → (row_for kind type_command).0 ≡ short_type
two_shapes kind h n =
    eqb-true (row_for kind type_command).0 short_type
    (or_right (eqb (row_for kind type_command).0 long_type) (eqb (row_for kind type_command).0 short_type) (type_shaped kind h)
    (ne_eqb (row_for kind type_command).0 long_type n))

pub type_told_lem :
    (kind : ℕ) (s : List ℕ) → 2 ≤ length s → length s ≡ (row_for (byte 2 s) type_command).0
    → meaning_of kind (type_frame s) ≡ enters (byte 2 s) (build_told (get_or s (length s - 1 - 1) 0) (get_or s (length s - 1) 0))
unfolding meaning_of
type_told_lem kind s l e = go (eqb (row_for (byte 2 s) type_command).0 long_type) (eqb-true (row_for (byte 2 s) type_command).0 long_type) (eqb-false (row_for (byte 2 s) type_command).0 long_type)
  where
    go : (t : Bool) → (t ≡ true → (row_for (byte 2 s) type_command).0 ≡ long_type) → (t ≡ false → (row_for (byte 2 s) type_command).0 ≡ long_type → ⊥)
        → meaning_of kind (cond t (TypeLong (byte 2 s) (byte 3 s) (byte 4 s) (byte 5 s) (byte 6 s) (byte 7 s)) (TypeShort (byte 2 s) (byte 3 s) (byte 4 s) (byte 5 s)))
        ≡ enters (byte 2 s) (build_told (get_or s (length s - 1 - 1) 0) (get_or s (length s - 1) 0))
    go true h n = let q : length s ≡ 7 = e ∙ h refl in rw q
    go false h n =
        let listed : is_listed (byte 2 s) type_command ≡ true = rw (ne_eqb (row_for (byte 2 s) type_command).0 0 (λ z. omega arith)) in
        let q : length s ≡ 5 = e ∙ two_shapes (byte 2 s) listed (n refl) in
        rw q
