-- What holds of seven-bit numbers; proofs/ proves each statement.
use Rattle.std.specs.Prelude.{ℕ, ◌+◌, ◌≤◌, ◌≡◌, List, ◌++◌, Bool, true, false, length, drop, Ok, Err}
use Rattle.laws.specs.Limits.{AllBytes}
use Rattle.groups.specs.declared.scan.NumberFault.TheVariants.{Ends, Bad}
use Rattle.groups.specs.Number.{Found, bytes_of, groups_of, number_at}

-- a byte is none that an allowed number can have there
abbrev pub is_bad : Found → Bool
is_bad (Ok (v, groups)) = false
is_bad (Err Ends) = false
is_bad (Err (Bad p)) = true

-- the greatest number of 64 bits
abbrev pub most64 : ℕ
most64 = 18446744073709551615

-- a number's bytes read back as the number, in as many groups as they are, whatever stands before and after
abbrev pub NumbersReadBack : Type 0
NumbersReadBack =
    (before after : List ℕ) (v most : ℕ) → v ≤ most → most ≤ most64 → number_at (before ++ (bytes_of v ++ after)) (length before) most ≡ Ok (v, groups_of v)

-- a number that was read is spelt by the bytes that writing it gives
abbrev pub ReadIsSpelt : Type 0
ReadIsSpelt = (s : List ℕ) → AllBytes s → (at most : ℕ) → most ≤ most64 → (v groups : ℕ) → number_at s at most ≡ Ok (v, groups) → drop at s ≡ bytes_of v ++ drop (at + groups) s

-- what is read where less is allowed, is read where more is
abbrev pub MoreIsAllowed : Type 0
MoreIsAllowed = (s : List ℕ) (at less more : ℕ) → less ≤ more → is_bad (number_at s at less) ≡ false → number_at s at more ≡ number_at s at less
