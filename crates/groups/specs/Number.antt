-- Seven-bit numbers: the bytes that a number has, and what reading one finds.
use Rattle.std.specs.Prelude.{ℕ, zero, suc, ◌+◌, ◌-◌, ◌*◌, ◌/◌, ◌%◌, List, [], ◌∷◌, cond, ltb, eqb, length, drop, Result, Ok, Err}
use Rattle.groups.specs.declared.scan.NumberFault.{NumberFault}
use Rattle.groups.specs.declared.scan.NumberFault.TheVariants.{Ends, Bad}

-- so many groups hold every number of 64 bits
abbrev pub most_groups : ℕ
most_groups = 10

-- the bytes of v, where `left` groups hold it: low group first, and the top bit of a byte says that another follows
unfoldable pub number_bytes : ℕ → ℕ → List ℕ
number_bytes zero v = []
number_bytes (suc left) v = cond (ltb v 128) (v ∷ []) ((v % 128 + 128) ∷ number_bytes left (v / 128))

abbrev pub bytes_of : ℕ → List ℕ
bytes_of v = number_bytes most_groups v

-- how many groups v takes
abbrev pub groups_of : ℕ → ℕ
groups_of v = length (bytes_of v)

-- what reading a number finds: the number and the count of its groups, or why there is none
abbrev pub Found : Type 0
Found = Result (ℕ × ℕ) NumberFault

-- the group `low` at the offset `at`, and after it the rest, as it was read: a rest of 0 is not the shortest form
abbrev pub joined : ℕ → ℕ → Found → Found
joined at low (Ok (v, groups)) = cond (eqb v 0) (Err (Bad (at + 1))) (Ok (low + 128 * v, groups + 1))
joined at low (Err fault) = Err fault

-- the number that the bytes begin with, of at most `left` groups and at most `most`, where the first byte has the offset `at`.
-- A byte b above `most` is bad as it stands: the number is b itself, or b's low bits and 128 or more besides.
unfoldable pub read_number : ℕ → ℕ → ℕ → List ℕ → Found
read_number left most at [] = Err Ends
read_number zero most at (b ∷ bs) = Err (Bad at)
read_number (suc left) most at (b ∷ bs) =
    cond (ltb most b) (Err (Bad at))
    (cond (ltb b 128) (Ok (b, 1))
    (cond (eqb left 0) (Err (Bad at))
    (joined at (b - 128) (read_number left ((most - (b - 128)) / 128) (at + 1) bs))))

-- the number at the offset `at` of the input s, which is at most `most`: as many groups are allowed as `most` itself takes
abbrev pub number_at : List ℕ → ℕ → ℕ → Found
number_at s at most = read_number (groups_of most) most at (drop at s)
