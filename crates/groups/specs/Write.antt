-- What writing a seven-bit number gives.
use Rattle.std.specs.Prelude.{ℕ, ◌+◌, List, cond, leb, length}
use Rattle.laws.specs.Copies.{copied_in}
use Rattle.groups.specs.Number.{bytes_of, groups_of}

-- the count of groups, 0 where they have no room from `at` on
unfoldable pub put_groups : List ℕ → ℕ → ℕ → ℕ
put_groups out at v = cond (leb (at + groups_of v) (length out)) (groups_of v) 0

-- the number's bytes at their place, and every other byte as it was; where they have no room, none changes
abbrev pub put_into : List ℕ → ℕ → ℕ → List ℕ
put_into out at v = copied_in out at (bytes_of v)
