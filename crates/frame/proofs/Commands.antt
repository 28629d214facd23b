-- The listed commands beside the table of readers, and the lengths of the type frame.
--     listed-read        every listed command has a reader
--     type_sized         a type frame has its type
--     type_shaped        and one of two lengths
-- Assumes nothing.
use Prim.Native.Nat.{ℕ, ◌≤◌}
use mathlib.Core.Path.{◌≡◌, refl, ap}
use mathlib.Core.List.{List, map}
use mathlib.Core.Bool.{true, not, ◌||◌}
use lib.Dec.{eqb, leb}
use borrow.Author.Tests.{leb-true}
use Rattle.laws.specs.Tests.{among}
use Rattle.laws.proofs.Testing.{or_right}
use Rattle.kinds.specs.Types.{long_type, short_type, row_for, is_listed}
use Rattle.kinds.proofs.Listed.{of-listed}
use Rattle.frame.specs.Messages.{Reader, readers, type_command}

-- the commands that the table of readers has a line for; every listed one is among them
abbrev pub read_commands : List ℕ
read_commands = map (λ (l : Reader). l.command) readers

pub listed-read : (kind c : ℕ) → is_listed kind c ≡ true → among c read_commands ≡ true
listed-read = of-listed (λ kind c r. among c read_commands) refl

-- a type frame has its type
pub type_sized : (kind c : ℕ) → is_listed kind c ≡ true → eqb c type_command ≡ true → 2 ≤ (row_for kind c).0
type_sized kind c h q =
    leb-true 2 (row_for kind c).0
    (or_right (not (eqb c type_command)) (leb 2 (row_for kind c).0) (of-listed (λ kind c r. not (eqb c type_command) || leb 2 r.0) refl kind c h) (ap not q))

pub type_shaped :
    (kind : ℕ) → is_listed kind type_command ≡ true → (eqb (row_for kind type_command).0 long_type || eqb (row_for kind type_command).0 short_type) ≡ true
type_shaped kind h = of-listed (λ kind c r. not (eqb c type_command) || (eqb r.0 long_type || eqb r.0 short_type)) refl kind type_command h
