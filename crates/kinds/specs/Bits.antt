-- The bits of a byte.
use Rattle.std.specs.Prelude.{ℕ, ◌+◌, ◌/◌, ◌%◌, ◌<◌, ◌≡◌, List, [], ◌∷◌, Bool, eqb}
use Rattle.laws.specs.Tests.{among}

-- the eight bits of a byte
abbrev pub bits : List ℕ
bits = 0x01 ∷ 0x02 ∷ 0x04 ∷ 0x08 ∷ 0x10 ∷ 0x20 ∷ 0x40 ∷ 0x80 ∷ []

-- a byte of exactly one of them
abbrev pub one_bit : ℕ → Bool
one_bit x = among x bits

-- how many bits of a byte are ones: the sum of the eight
abbrev pub ones_among : List ℕ → ℕ → ℕ
ones_among [] x = 0
ones_among (bit ∷ rest) x = x / bit % 2 + ones_among rest x

abbrev pub ones : ℕ → ℕ
ones x = ones_among bits x

-- a byte is among the eight exactly where its ones are 1
abbrev pub OneBitIsOneOne : Type 0
OneBitIsOneOne = (x : ℕ) → x < 256 → one_bit x ≡ eqb (ones x) 1
