-- What holds of every line of the table of types, and of every row of every list, holds of the line and of the row that are found: each
-- rule is one test that antt computes over the table, so that a new line needs no proof.
--     of-line            a test of every line, at any number
--     of_any             a test of every row, at any command of any number
--     of-listed          the same at a listed command
--     other_line, other_rows     a number that is no type
--     listed_module      only a type has rows
--     module_some        no type is none
--     module_handed      every type may be handed in
--     row-size, row_known, row_priority     a row's length and priority
--     cells_few          a location of two bytes reaches every cell
-- Assumes nothing.
use Prim.Native.Nat.{ℕ, ◌≤◌}
use native.Mathlib.Omega.{arith}
use mathlib.Core.Path.{◌≡◌, refl}
use mathlib.Core.List.{List, []}
use mathlib.Core.Bool.{Bool, true, not, ◌&&◌, ◌||◌}
use lib.Dec.{eqb, leb}
use borrow.Author.Tests.{leb-true, not-true}
use Rattle.laws.specs.Limits.{most_bytes}
use Rattle.laws.specs.Tests.{among}
use Rattle.laws.proofs.Keys.{NoneOf, passed_over, every, for_any, for_each}
use Rattle.laws.proofs.Testing.{and_both, or_right, among-each}
use Rattle.kinds.specs.Types.{priorities, Entry, Line, no_row, types, no_line, line_of, all_rows, rows_of, row_for, is_listed, no_type, module_types, handed_types, cells_of}
use Rattle.kinds.specs.declared.types.Row.{Row}

pub of-line : (f : Line → Bool) → every f types ≡ true → f no_line ≡ true → (kind : ℕ) → f (line_of kind) ≡ true
unfolding line_of
of-line f h z = for_any (λ (l : Line). l.number) (λ (l : Line). l) no_line (λ k l. f l) types h (λ k. z)

-- a test of every row of a list, by the type's number
abbrev pub every_row_lem : (ℕ → ℕ → Row → Bool) → ℕ → List Entry → Bool
every_row_lem f kind es = every (λ (e : Entry). f kind e.command e.listed) es

abbrev pub everywhere : (ℕ → ℕ → Row → Bool) → Bool
everywhere f = every (λ (l : Line). every_row_lem f l.number (all_rows l)) types

pub of_any : (f : ℕ → ℕ → Row → Bool) → everywhere f ≡ true → ((kind c : ℕ) → f kind c no_row ≡ true) → (kind c : ℕ) → f kind c (row_for kind c) ≡ true
unfolding rows_of
of_any f h z kind =
    for_any (λ (e : Entry). e.command) (λ (e : Entry). e.listed) no_row (f kind) (rows_of kind)
    (for_any (λ (l : Line). l.number) all_rows [] (every_row_lem f) types h (λ k. refl) kind)
    (z kind)

-- the same at a listed command, where a row has a length
pub of-listed :
    (f : ℕ → ℕ → Row → Bool) → everywhere (λ k c r. eqb r.0 0 || f k c r) ≡ true → (kind c : ℕ) → is_listed kind c ≡ true → f kind c (row_for kind c) ≡ true
of-listed f t kind c h =
    or_right (eqb (row_for kind c).0 0) (f kind c (row_for kind c)) (of_any (λ k c r. eqb r.0 0 || f k c r) t (λ k c. refl) kind c)
    (not-true (eqb (row_for kind c).0 0) h)

-- what the default arm of a match on the type knows
pub other_line : (kind : ℕ) → NoneOf (Unit {0}) kind module_types → line_of kind ≡ no_line
unfolding line_of
other_line kind = passed_over (λ (l : Line). l.number) (λ (l : Line). l) no_line types [] kind

pub other_rows : (kind : ℕ) → NoneOf (Unit {0}) kind module_types → rows_of kind ≡ []
unfolding rows_of
other_rows kind = passed_over (λ (l : Line). l.number) all_rows [] types [] kind

-- the types

pub listed_module : (kind c : ℕ) → is_listed kind c ≡ true → among kind module_types ≡ true
listed_module = of-listed (λ kind c r. among kind module_types) refl

pub module_some : (kind : ℕ) → among kind module_types ≡ true → not (eqb kind no_type) ≡ true
module_some = for_each (λ k. not (eqb k no_type)) module_types refl

pub module_handed : (kind : ℕ) → among kind module_types ≡ true → among kind handed_types ≡ true
module_handed = for_each (λ k. among k handed_types) module_types refl

-- at most eight bytes, and priority high or low
abbrev good : ℕ → ℕ → Row → Bool
good kind c r = leb r.0 most_bytes && among r.1 priorities

row_good : (kind c : ℕ) → (leb (row_for kind c).0 most_bytes ≡ true) × (among (row_for kind c).1 priorities ≡ true)
row_good kind c = and_both (leb (row_for kind c).0 most_bytes) (among (row_for kind c).1 priorities) (of_any good refl (λ k c. refl) kind c)

pub row-size : (kind c : ℕ) → (row_for kind c).0 ≤ most_bytes
row-size kind c = leb-true (row_for kind c).0 most_bytes (row_good kind c).0

pub row_known : (kind c : ℕ) → among (row_for kind c).1 priorities ≡ true
row_known kind c = (row_good kind c).1

pub row_priority : (kind c : ℕ) → (row_for kind c).1 ≤ 3
row_priority kind c = among-each (λ (p : ℕ). p ≤ 3) (row_for kind c).1 priorities (omega arith, (omega arith, tt)) (row_known kind c)

-- a location of two bytes reaches every cell
pub cells_few : (kind : ℕ) → cells_of kind ≤ 65536
cells_few kind = leb-true (cells_of kind) 65536 (of-line (λ l. leb l.cells 65536) refl refl kind)
