-- The three status bytes as the code adds them up, all in one number. Assumes nothing.
use Prim.Native.Nat.{ℕ, ◌+◌, ◌*◌, ◌/◌, ◌%◌, ◌≤◌, ◌<◌}
use native.Mathlib.Omega.{arith}
use mathlib.Core.Path.{◌≡◌, refl}
use mathlib.Core.Bool.{Bool, true, false, cond}
use mathlib.Core.List.{List, [], ◌∷◌}
use lib.Dec.{eqb}
use Rattle.frame.specs.declared.messages.Glow.{Glow}
use Rattle.frame.specs.declared.messages.Glow.TheVariants.{On, Slow, Fast, VeryFast}
use Rattle.places.specs.Runs.{glow_number}
use Rattle.replies.specs.Leds.{one_if, ones, one_shown}

one_small : (s t : Glow) (x : ℕ) → one_if s t x ≤ 1
one_small s t x = go (eqb x (glow_number s)) (eqb x (glow_number t))
  where
    go : (a b : Bool) → cond a 1 (cond b 1 0) ≤ 1
    go true b = omega arith
    go false true = omega arith
    go false false = omega arith

-- a byte of so many LEDs stays below two for each of them
abbrev twos : List ℕ → ℕ
twos [] = 1
twos (x ∷ xs) = 2 * twos xs

ones_small : (s t : Glow) (xs : List ℕ) → ones s t xs < twos xs
unfolding ones
ones_small s t [] = omega arith
ones_small s t (x ∷ xs) = omega (arith, one_small s t x, ones_small s t xs)

abbrev pub all_shown_lem : List ℕ → ℕ
all_shown_lem [] = 0
all_shown_lem (x ∷ xs) = one_shown x + 2 * all_shown_lem xs

all_shown : (xs : List ℕ) → all_shown_lem xs ≡ ones On On xs + 256 * ones Slow VeryFast xs + 65536 * ones Fast VeryFast xs
unfolding ones
all_shown [] = refl
all_shown (x ∷ xs) = omega (arith, all_shown xs)

-- the number of eight LEDs, taken apart
pub shown_bytes :
    (x₀ x₁ x₂ x₃ x₄ x₅ x₆ x₇ n : ℕ) (l : List ℕ) → l ≡ x₀ ∷ x₁ ∷ x₂ ∷ x₃ ∷ x₄ ∷ x₅ ∷ x₆ ∷ x₇ ∷ [] → n ≡ all_shown_lem (x₀ ∷ x₁ ∷ x₂ ∷ x₃ ∷ x₄ ∷ x₅ ∷ x₆ ∷ x₇ ∷ [])
    → (n % 256 ≡ ones On On l) × (n / 256 % 256 ≡ ones Slow VeryFast l) × (n / 65536 % 256 ≡ ones Fast VeryFast l)
shown_bytes x₀ x₁ x₂ x₃ x₄ x₅ x₆ x₇ n l q e = rw q (go (x₀ ∷ x₁ ∷ x₂ ∷ x₃ ∷ x₄ ∷ x₅ ∷ x₆ ∷ x₇ ∷ []) refl e)
  where
    go : (l : List ℕ) → twos l ≡ 256 → n ≡ all_shown_lem l → (n % 256 ≡ ones On On l) × (n / 256 % 256 ≡ ones Slow VeryFast l) × (n / 65536 % 256 ≡ ones Fast VeryFast l)
    go l t e =
        let a = all_shown l in
        let x = ones_small On On l in
        let y = ones_small Slow VeryFast l in
        let z = ones_small Fast VeryFast l in
        (omega arith, omega arith, omega arith)
