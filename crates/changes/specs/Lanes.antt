-- A STEP OF A PROOF, which no promise cites: four numbers side by side in a word of 64 bits, as four places hold them. Assumes nothing.
use Rattle.std.specs.Prelude.{ℕ, ◌+◌, ◌*◌, ◌/◌, ◌%◌, List, [], ◌∷◌}

-- f k, f (k + 1), f (k + 2) and f (k + 3), each in 16 bits, the first lowest
unfoldable pub lane_word : (ℕ → ℕ) → ℕ → ℕ
lane_word f k = f k + 65536 * f (k + 1) + 4294967296 * f (k + 2) + 281474976710656 * f (k + 3)

-- the eight bytes of a word, low byte first
abbrev pub word_bytes : ℕ → List ℕ
word_bytes w =
    w % 256
    ∷ w / 256 % 256
    ∷ w / 65536 % 256
    ∷ w / 16777216 % 256
    ∷ w / 4294967296 % 256
    ∷ w / 1099511627776 % 256
    ∷ w / 281474976710656 % 256
    ∷ w / 72057594037927936 % 256
    ∷ []
