-- The ring of specs/Refinement.antt is the machine's log: a store at `next` is `take d (u ∷ log)`, for any depth d up to the ring's size, and a step
-- back is by definition the latest entry and the rest. Assumes nothing.
use Prim.Native.Nat.{ℕ, zero, suc, ◌+◌, ◌%◌, ◌<◌, ◌≤◌, min}
use native.Mathlib.Omega.{arith}
use native.Mathlib.Nat.{zero-min, min-zero, suc-min-suc}
use mathlib.Core.Path.{◌≡◌, refl, ap}
use mathlib.Core.Logic.{◌≢◌}
use mathlib.Core.List.{List, ◌∷◌}
use lib.ListN.{length, set, take}
use lib.Seq.{get_or-set_same, get_or-set_other}
use Rattle.shape.specs.Limits.{ring}
use Rattle.shape.specs.Head.{before, following}
use Rattle.history.specs.Machine.{Undo, same}
use Rattle.history.specs.Refinement.{entries}

-- a store m that lies j places after n is not among the k entries before n
skip : (k j n m : ℕ) (us : List Undo) (u : Undo) → n < ring → m ≡ (n + j) % ring → j + k < ring → entries (set us m u) n k ≡ entries us n k
unfolding entries
skip zero j n m us u l e h = refl
skip (suc k) j n m us u l e h =
    let apart : before n ≢ m = omega arith in
    let next : m ≡ (before n + suc j) % ring = omega arith in
    rw (get_or-set_other us m (before n) u same apart, skip k (suc j) (before n) m us u (omega arith) next (omega arith))

take-entries : (j k n : ℕ) (us : List Undo) → take j (entries us n k) ≡ entries us n (min j k)
unfolding entries
take-entries zero k n us = rw zero-min
take-entries (suc j) zero n us = rw min-zero
take-entries (suc j) (suc k) n us = rw (suc-min-suc, take-entries j k (before n) us)

pub push : (d k n : ℕ) (us : List Undo) (u : Undo) → d ≤ ring → n < ring → length us ≡ ring
    → entries (set us n u) (following n) (min d (suc k)) ≡ take d (u ∷ entries us n k)
unfolding entries
push zero k n us u hd hn hr = rw zero-min
push (suc d) k n us u hd hn hr =
    let here : before (following n) ≡ n = omega arith in
    rw (suc-min-suc, here, get_or-set_same us n u same (omega arith), skip (min d k) 0 n n us u hn (omega arith) (omega arith), take-entries d k n us)

pub length-entries : (us : List Undo) (n k : ℕ) → length (entries us n k) ≡ k
unfolding entries
length-entries us n zero = refl
length-entries us n (suc k) = ap suc (length-entries us (before n) k)
