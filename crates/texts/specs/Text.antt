-- Text as bytes, and what putting it into a buffer gives.
use Rattle.std.specs.Prelude.{ℕ, zero, suc, ◌+◌, ◌-◌, ◌/◌, ◌%◌, ◌≤◌, ◌≡◌, List, [], ◌∷◌, ◌++◌, cond, ltb, length}
use Prim.Native.Char.{code}
use Prim.Native.String.{String, [] as none, ◌∷◌ as ◌then◌}
use Rattle.std.proofs.lemmas.List.Edits.{sets}

-- the bytes of a text of plain characters
abbrev pub letters : String → List ℕ
letters none = []
letters (c then s) = code c ∷ letters s

-- `text` has room at the place `at` of a buffer
pub record Fits (out : List ℕ) (at : ℕ) (text : List ℕ) : Type 0 where
  pub room : at + length text ≤ length out

-- `text` was put at the place `at` of a buffer: it stands there, every other byte is as before, and `next` is the place past it
pub record Written (before : List ℕ) (at : ℕ) (text after : List ℕ) (next : ℕ) : Type 0 where
  pub stored : after ≡ sets before at text
  pub past : next ≡ at + length text

-- the shortest decimal digits of n, where `left` digits hold it
unfoldable pub decimal : ℕ → ℕ → List ℕ
decimal zero n = []
decimal (suc left) n = cond (ltb n 10) ((code "0" + n) ∷ []) (decimal left (n / 10) ++ ((code "0" + n % 10) ∷ []))

-- the shortest decimal digits of a 64-bit number, which has at most 20
abbrev pub in_decimal : ℕ → List ℕ
in_decimal n = decimal 20 n

-- a hexadecimal digit, in capitals
abbrev pub hex_digit : ℕ → ℕ
hex_digit d = cond (ltb d 10) (code "0" + d) (code "A" + (d - 10))

-- a byte as two hexadecimal digits
abbrev pub in_hex : ℕ → List ℕ
in_hex b = hex_digit (b / 16) ∷ hex_digit (b % 16) ∷ []
