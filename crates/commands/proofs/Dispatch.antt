-- The number of a command that no arm is for.
--     none-listed        a command that is neither of the single ones nor of those in a row is refused with 6
--     too_short_lem, no_slot, no_module     what is refused before its command is looked at
-- Assumes nothing.
use Rattle.std.proofs.Common.{◌≡◌, ℕ, ◌<◌, ◌≤◌, Bool, true, false, not, ◌||◌, eqb, List, [], ◌∷◌, length, sym, refl, ◌∙◌, arith, le-ltb, lt-ltb, ne_eqb}
use Rattle.laws.specs.Refusals.{too_short, type_not_known, not_listed}
use Rattle.laws.specs.Tests.{among, unless}
use Rattle.laws.proofs.Testing.{not_both, or_right}
use Rattle.kinds.specs.Types.{module_types, is_listed}
use Rattle.kinds.proofs.Listed.{of-listed, listed_module}
use Rattle.frame.specs.Bytes.{byte, data_of}
use Rattle.frame.specs.Messages.{type_command}
use Rattle.judging.specs.Reading.{row_refusal}
use Rattle.places.specs.Runs.{command_of}
use Rattle.shape.specs.Limits.{room}
use Rattle.shape.specs.Layout.{size}
use Rattle.commands.specs.Commands.{command_number}
use Rattle.commands.specs.Arms.{single, Heard}
use Rattle.commands.proofs.Arms.{refusing}

-- those in a row
abbrev row_commands : List ℕ
row_commands = 0xF0 ∷ 0xF1 ∷ 0xF5 ∷ 0xF6 ∷ 0xF7 ∷ 0xF8 ∷ 0xF9 ∷ []

not_row : (c : ℕ) → (0xF0 ≤ c → c ≤ 0xF1 → ⊥) → (0xF5 ≤ c → c ≤ 0xF9 → ⊥) → among c row_commands ≡ false
not_row c p q =
    rw (
      ne_eqb c 0xF0 (λ e. p (omega arith) (omega arith)),
      ne_eqb c 0xF1 (λ e. p (omega arith) (omega arith)),
      ne_eqb c 0xF5 (λ e. q (omega arith) (omega arith)),
      ne_eqb c 0xF6 (λ e. q (omega arith) (omega arith)),
      ne_eqb c 0xF7 (λ e. q (omega arith) (omega arith)),
      ne_eqb c 0xF8 (λ e. q (omega arith) (omega arith)),
      ne_eqb c 0xF9 (λ e. q (omega arith) (omega arith)),
    )

-- a listed command has an arm, or is in a row, or is the type frame's
abbrev armed : ℕ → Bool
armed c = among c single || (among c row_commands || eqb c type_command)

unlisted : (kind c : ℕ) → among c single ≡ false → among c row_commands ≡ false → eqb c type_command ≡ false → is_listed kind c ≡ false
unlisted kind c x y z = go (is_listed kind c) refl
  where
    go : (t : Bool) → is_listed kind c ≡ t → t ≡ false
    go false e = refl
    go true e =
        let a : armed c ≡ true = of-listed (λ kind c r. armed c) refl kind c e in
        not_both (sym z ∙ or_right (among c row_commands) (eqb c type_command) (or_right (among c single) (among c row_commands || eqb c type_command) a x) y)

module _ (b : List ℕ) (slot kind priority : ℕ) (s : List ℕ) where
  pub too_short_lem : length b < size → Heard b slot kind priority s too_short b
  unfolding command_number
  too_short_lem h = refusing (rw (lt-ltb (length b) size h)) (λ z. omega arith) refl

  module _ (whole : size ≤ length b) where
    pub no_slot : room ≤ slot → Heard b slot kind priority s type_not_known b
    unfolding command_number
    no_slot h = refusing (rw (le-ltb (length b) size whole, le-ltb slot room h)) (λ z. omega arith) refl

    module _ (within : slot < room) where
      -- of a number that is no type's, and of a command with no arm
      not_listed_lem : (eqb (byte 1 s) type_command ≡ false → is_listed kind (byte 1 s) ≡ false) → Heard b slot kind priority s not_listed b
      unfolding command_number
      not_listed_lem h = refusing (rw (le-ltb (length b) size whole, lt-ltb slot room within) (go (eqb (byte 1 s) type_command) h)) (λ z. omega arith) refl
        where
          go : (t : Bool) → (t ≡ false → is_listed kind (byte 1 s) ≡ false) → not_listed ≡ unless (not t) not_listed (row_refusal kind priority (data_of s) (command_of s))
          go true h = refl
          go false h = rw (h refl)

      pub no_module : among kind module_types ≡ false → Heard b slot kind priority s not_listed b
      no_module m = not_listed_lem (λ z. go (is_listed kind (byte 1 s)) (listed_module kind (byte 1 s)))
        where
          go : (t : Bool) → (t ≡ true → among kind module_types ≡ true) → t ≡ false
          go false h = refl
          go true h = not_both (sym m ∙ h refl)

      pub none-listed :
          {c : ℕ} → c ≡ byte 1 s → among c single ≡ false → (0xF0 ≤ c → c ≤ 0xF1 → ⊥) → (0xF5 ≤ c → c ≤ 0xF9 → ⊥) → Heard b slot kind priority s not_listed b
      none-listed {c} e x p q = not_listed_lem (λ z. unlisted kind (byte 1 s) (rw (← e) x) (rw (← e) (not_row c p q)) z)
