-- A STEP OF A PROOF, which no promise cites: eight bytes side by side in a word of 64 bits. Assumes nothing.
use Rattle.std.specs.Prelude.{ℕ, zero, suc, ◌+◌, ◌*◌, ◌/◌, ◌%◌, List, [], ◌∷◌}

-- bytes as a number, the lowest first; and the n lowest bytes of a number
unfoldable pub byte_word : List ℕ → ℕ
byte_word [] = 0
byte_word (x ∷ xs) = x + 256 * byte_word xs

unfoldable pub byte_list : ℕ → ℕ → List ℕ
byte_list zero w = []
byte_list (suc n) w = w % 256 ∷ byte_list n (w / 256)
