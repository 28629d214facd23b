-- The listing's lines, each with its newline.
use Rattle.std.specs.Prelude.{ℕ, List, ◌++◌}
use Rattle.texts.specs.Text.{letters, in_decimal, in_hex}

-- the first line
abbrev pub header : List ℕ
header = letters "address type names cells\n"

-- a word and a number
abbrev pub numbered : List ℕ → ℕ → List ℕ
numbered word n = word ++ in_decimal n

-- two words, each with its number
abbrev pub two_numbers : List ℕ → ℕ → List ℕ → ℕ → List ℕ
two_numbers first m second n = numbered first m ++ numbered second n ++ letters "\n"

-- a module: address, type, the count of its whole names, the count of its told cells
unfoldable pub module_line : ℕ → ℕ → ℕ → ℕ → List ℕ
module_line address kind names cells = in_hex address ++ letters " " ++ in_hex kind ++ two_numbers (letters " ") names (letters " ") cells

-- the fault that broke the recording off
abbrev pub broken_line : ℕ → ℕ → List ℕ
broken_line offset refusal = two_numbers (letters "broken at byte ") offset (letters " refusal ") refusal

-- the last line: accepted records, and the other unbroken ones
abbrev pub count_line : ℕ → ℕ → List ℕ
count_line heard refused = two_numbers (letters "heard ") heard (letters " refused ") refused
