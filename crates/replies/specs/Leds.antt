-- The bytes of a status frame that speak of eight LEDs. Assumes nothing.
use Rattle.std.specs.Prelude.{ℕ, ◌+◌, ◌*◌, cond, List, [], ◌∷◌, eqb}
use Rattle.frame.specs.declared.messages.Glow.{Glow}
use Rattle.frame.specs.declared.messages.Glow.TheVariants.{On, Slow, Fast, VeryFast}
use Rattle.places.specs.Runs.{glow_number}

-- 1 for the number of either state
abbrev pub one_if : Glow → Glow → ℕ → ℕ
one_if s t x = cond (eqb x (glow_number s)) 1 (cond (eqb x (glow_number t)) 1 0)

-- a one for each of the LEDs whose state is either, the first LED in the lowest bit
unfoldable pub ones : Glow → Glow → List ℕ → ℕ
ones s t [] = 0
ones s t (x ∷ xs) = one_if s t x + 2 * ones s t xs

-- what the on, slow and fast bytes show of one LED, as one number, a byte to each
abbrev pub one_shown : ℕ → ℕ
one_shown x = one_if On On x + 256 * one_if Slow VeryFast x + 65536 * one_if Fast VeryFast x
