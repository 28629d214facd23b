-- Different things of a module have different places, but for a character that is a cell: a place says whose it is. Assumes nothing.
use Prim.Native.Nat.{ℕ, ◌+◌, ◌-◌, ◌*◌, ◌/◌, ◌%◌, ◌≤◌}
use native.Mathlib.Omega.{arith}
use mathlib.Core.Path.{◌≡◌, refl, sym, ap, ◌∙◌}
use mathlib.Core.Bool.{Bool, true, false, cond}
use lib.Dec.{eqb, ltb}
use borrow.Author.Tests.{ne_eqb, lt-ltb, le-ltb}
use Rattle.places.specs.Apart.{Thing, year, week, led, blind, character, cell, Has, place_of, is, Apart, Inside}
use Rattle.kinds.specs.Types.{names_in_memory}
use Rattle.places.specs.Places.{within, first_character}
use Rattle.places.proofs.CodePlaces.{within_low, within-high}
use Rattle.places.proofs.Fitting.{extents_small, first_small}

-- whose place it is: the build, the LEDs, the blinds, the names, the cells
abbrev thing_at : ℕ → Thing
thing_at p =
    cond (eqb p 0) year
    (cond (eqb p 1) week
    (cond (ltb p 10) (led (p - 1))
    (cond (ltb p 16) (blind (p - 9))
    (cond (ltb p 256) (character ((p - 16) / 16 + 1) ((p - 16) % 16 + 1)) (cell (p - 256))))))

bounds : (n most : ℕ) → within n most ≡ true → (1 ≤ n) × (n ≤ most)
bounds n most h = (within_low n most h, within-high n most h)

-- a character: among the names, or the cell that it is
among_names : (p name i : ℕ) → 1 ≤ name → name ≤ 8 → 1 ≤ i → i ≤ 16 → p ≡ 16 + 16 * (name - 1) + (i - 1) → thing_at p ≡ character name i
among_names p name i l m f t at =
    let n : (p - 16) / 16 + 1 ≡ name = omega arith in
    let j : (p - 16) % 16 + 1 ≡ i = omega arith in
    rw (ne_eqb p 0 (λ e. omega arith), ne_eqb p 1 (λ e. omega arith), le-ltb p 10 (omega arith), le-ltb p 16 (omega arith), lt-ltb p 256 (omega arith))
    (λ x. character (n x) (j x))

among-cells : (p location : ℕ) → p ≡ 256 + location → thing_at p ≡ cell location
among-cells p location at =
    rw (ne_eqb p 0 (λ e. omega arith), ne_eqb p 1 (λ e. omega arith), le-ltb p 10 (omega arith), le-ltb p 16 (omega arith), le-ltb p 256 (omega arith))
    (ap cell (omega arith))

character_found : (kind name i : ℕ) → 1 ≤ name → name ≤ 8 → 1 ≤ i → i ≤ 16 → thing_at (place_of kind (character name i)) ≡ is kind (character name i)
unfolding first_character
character_found kind name i l m f t = go (names_in_memory kind) refl
  where
    go : (memory : Bool) → names_in_memory kind ≡ memory
        → thing_at (place_of kind (character name i)) ≡ cond memory (cell (16 * (name - 1) + (i - 1))) (character name i)
    go true e = among-cells (place_of kind (character name i)) (16 * (name - 1) + (i - 1)) (rw e (omega arith))
    go false e = among_names (place_of kind (character name i)) name i l m f t (rw e (omega arith))

found : (kind : ℕ) (a : Thing) → Has kind a → thing_at (place_of kind a) ≡ is kind a
found kind year h = refl
found kind week h = refl
found kind (led n) h =
    let p = place_of kind (led n) in
    let small = (extents_small kind).leds_small in
    let b = bounds n _ h in
    let l = b.0 in
    let m = b.1 in
    rw (ne_eqb p 0 (λ e. omega arith), ne_eqb p 1 (λ e. omega arith), lt-ltb p 10 (omega arith)) (ap led (omega arith))
found kind (blind n) h =
    let p = place_of kind (blind n) in
    let small = (extents_small kind).blinds_small in
    let b = bounds n _ h in
    let l = b.0 in
    let m = b.1 in
    rw (ne_eqb p 0 (λ e. omega arith), ne_eqb p 1 (λ e. omega arith), le-ltb p 10 (omega arith), lt-ltb p 16 (omega arith)) (ap blind (omega arith))
found kind (character name i) h =
    let small = (extents_small kind).names_small in
    let b = bounds name _ h.0 in
    let d = bounds i _ h.1 in
    character_found kind name i b.0 (omega (arith, b.1)) d.0 d.1
found kind (cell location) h = among-cells (place_of kind (cell location)) location refl

-- and what a thing is lies where the thing lies
as_is : (kind : ℕ) (a : Thing) → place_of kind (is kind a) ≡ place_of kind a
unfolding first_character
as_is kind year = refl
as_is kind week = refl
as_is kind (led n) = refl
as_is kind (blind n) = refl
as_is kind (character name i) = go (names_in_memory kind) refl
  where
    go : (memory : Bool) → names_in_memory kind ≡ memory → place_of kind (cond memory (cell (16 * (name - 1) + (i - 1))) (character name i)) ≡ place_of kind (character name i)
    go true e = rw e (omega arith)
    go false e = refl
as_is kind (cell location) = refl

pub apart : Apart
apart kind a b ha hb =
    (λ e. sym (found kind a ha) ∙ ap thing_at e ∙ found kind b hb, λ e. sym (as_is kind a) ∙ ap (place_of kind) e ∙ as_is kind b)

pub inside : Inside
inside kind year h = omega arith
inside kind week h = omega arith
inside kind (led n) h = let b = bounds n _ h in omega (arith, b.0, b.1, (extents_small kind).leds_small)
inside kind (blind n) h = let b = bounds n _ h in omega (arith, b.0, b.1, (extents_small kind).blinds_small)
inside kind (character name i) h =
    let b = bounds name _ h.0 in
    let d = bounds i _ h.1 in
    omega (arith, b.0, b.1, d.0, d.1, (extents_small kind).names_small, first_small kind)
inside kind (cell location) h = omega (arith, h, (extents_small kind).cells_small)
