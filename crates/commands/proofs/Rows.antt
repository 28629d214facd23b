-- The row of a command in the lists of the modules, as one test of the table.
--     Rowed              the row (n, p) of a command in the lists of some modules, and none in those of the others
--     row_of             so a module that has it has that row,
--     row-none           and one that has not lists no such command
--     leds_here, leds_not, blinds_here, blinds_not     which modules those are, by the code's test of the type
--     last_cell_lem, last_start_lem, cells_small     how far cells go
-- Assumes nothing.
use Rattle.std.proofs.Common.{◌≡◌, ℕ, ◌≤◌, Bool, true, false, cond, not, ◌&&◌, eqb, leb, List, [], sym, refl, ◌∙◌, eq-eqb, ne_eqb, eqb-true, leb-true}
use Rattle.laws.specs.Tests.{among, first_for}
use Rattle.laws.proofs.Keys.{every, for_each}
use Rattle.laws.proofs.Testing.{and_both}
use Rattle.kinds.proofs.Listed.{of-line}
use Rattle.kinds.specs.Types.{Entry, Line, types, line_of, module_types, vmb1bl, vmb8ir, cells_of, last_cell, last_start, all_rows, rows_of, find, row_for}

-- every module; VMB8IR alone; every other
abbrev pub every_module : ℕ → Bool
every_module kind = true

abbrev pub with_leds : ℕ → Bool
with_leds kind = eqb kind vmb8ir

abbrev pub with_blinds : ℕ → Bool
with_blinds kind = not (eqb kind vmb8ir)

module _ {w kind : ℕ} (e : w ≡ kind) where
  pub leds_here : w ≡ vmb8ir → with_leds kind ≡ true
  leds_here q = eq-eqb kind vmb8ir (sym e ∙ q)

  pub leds_not : (w ≡ vmb8ir → ⊥) → with_leds kind ≡ false
  leds_not n = ne_eqb kind vmb8ir (λ q. n (e ∙ q))

  pub blinds_here : (w ≡ vmb8ir → ⊥) → with_blinds kind ≡ true
  blinds_here n = rw (leds_not n)

  pub blinds_not : w ≡ vmb8ir → with_blinds kind ≡ false
  blinds_not q = rw (leds_here q)

-- the list of a type, looked up in the table
abbrev rows_at : ℕ → List Entry
rows_at kind = first_for (λ (l : Line). l.number) all_rows [] types kind

module _ (has : ℕ → Bool) (k n p : ℕ) where
  abbrev rowed : ℕ → List Entry → Bool
  rowed kind rows = cond (has kind) (eqb (find rows k).0 n && eqb (find rows k).1 p) (eqb (find rows k).0 0)

  abbrev pub Rowed : Type 0
  Rowed = every (λ (kind : ℕ). rowed kind (rows_at kind)) module_types ≡ true

  module _ (rows : Rowed) (kind : ℕ) (m : among kind module_types ≡ true) where
    tested : rowed kind (rows_of kind) ≡ true
    unfolding rows_of
    tested = for_each (λ (kind : ℕ). rowed kind (rows_at kind)) module_types rows kind m

    pub row_of : has kind ≡ true → ((row_for kind k).0 ≡ n) × ((row_for kind k).1 ≡ p)
    row_of h =
        let t : eqb (row_for kind k).0 n && eqb (row_for kind k).1 p ≡ true = rw h at tested in
        let g = and_both (eqb (row_for kind k).0 n) (eqb (row_for kind k).1 p) t in
        (eqb-true (row_for kind k).0 n g.0, eqb-true (row_for kind k).1 p g.1)

    pub row-none : has kind ≡ false → (row_for kind k).0 ≡ 0
    row-none h = let t : eqb (row_for kind k).0 0 ≡ true = rw h at tested in eqb-true (row_for kind k).0 0 t

-- the last cell of a module, and the last that a block can start at
pub last_cell_lem : (kind : ℕ) → among kind module_types ≡ true → cond (eqb kind vmb1bl) 127 255 ≡ last_cell kind
unfolding line_of
last_cell_lem kind m = eqb-true (cond (eqb kind vmb1bl) 127 255) (last_cell kind) (for_each (λ (k : ℕ). eqb (cond (eqb k vmb1bl) 127 255) (last_cell k)) module_types refl kind m)

pub last_start_lem : (kind : ℕ) → among kind module_types ≡ true → cond (eqb kind vmb1bl) 124 252 ≡ last_start kind
unfolding line_of
last_start_lem kind m = eqb-true (cond (eqb kind vmb1bl) 124 252) (last_start kind) (for_each (λ (k : ℕ). eqb (cond (eqb k vmb1bl) 124 252) (last_start k)) module_types refl kind m)

-- no module has more than 256 cells
pub cells_small : (kind : ℕ) → cells_of kind ≤ 256
cells_small kind = leb-true (cells_of kind) 256 (of-line (λ (l : Line). leb l.cells 256) refl refl kind)
