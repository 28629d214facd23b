-- A run written into a row of places: what each place then holds, and that putting the old contents back gives the old row. Assumes nothing.
use Prim.Native.Nat.{ℕ, zero, suc, ◌<◌, ◌≤◌}
use native.Mathlib.Omega.{arith}
use mathlib.Core.Path.{◌≡◌, refl, sym, ◌∙◌}
use mathlib.Core.Bool.{Bool, true, false, cond}
use mathlib.Core.List.{List, [], ◌∷◌}
use mathlib.Core.Option.{none, some}
use mathlib.Core.Logic.{◌≢◌}
use lib.Dec.{eqb}
use lib.ListN.{length, get_or, set, length-set}
use lib.Seq.{get_or-set_same, get_or-set_other, set-set, set-get_or}
use borrow.Author.Tests.{eqb-true, eqb-false, ne_eqb}
use Rattle.places.specs.Runs.{Saying, silent, asks, tells, said_from}
use Rattle.history.specs.Standing.{Known, after}
use Rattle.history.specs.Machine.{Cell, put, write, olds_from, restore}

put-length : (l : List Cell) (i : ℕ) (x : Saying) → length (put l i x) ≡ length l
unfolding put
put-length l i silent = refl
put-length l i asks = simp length-set
put-length l i (tells v) = simp length-set

pub write-length : (l : List Cell) (i : ℕ) (xs : List Saying) → length (write l i xs) ≡ length l
unfolding write
write-length l i [] = refl
write-length l i (x ∷ xs) = write-length (put l i x) (suc i) xs ∙ put-length l i x

put_same : (l : List Cell) (i : ℕ) (x : Saying) (k : Known) → i < length l → get_or l i none ≡ some k → get_or (put l i x) i none ≡ some (after x k)
unfolding put after
put_same l i silent k h e = e
put_same l i asks k h e = rw get_or-set_same
put_same l i (tells v) k h e = rw get_or-set_same

put_other : (l : List Cell) (i : ℕ) (x : Saying) (p : ℕ) → p ≢ i → get_or (put l i x) p none ≡ get_or l p none
unfolding put
put_other l i silent p n = refl
put_other l i asks p n = rw get_or-set_other
put_other l i (tells v) p n = rw get_or-set_other

-- a run says nothing of the places before it
said-before : (i : ℕ) (xs : List Saying) (p : ℕ) → p < i → said_from i xs p ≡ silent
unfolding said_from
said-before i [] p h = refl
said-before i (x ∷ xs) p h = rw (ne_eqb i p (omega arith)) (said-before (suc i) xs p (omega arith))

pub write_at : (l : List Cell) (i : ℕ) (xs : List Saying) (p : ℕ) (k : Known) → p < length l → get_or l p none ≡ some k
    → get_or (write l i xs) p none ≡ some (after (said_from i xs p) k)
unfolding write said_from after
write_at l i [] p k h e = e
write_at l i (x ∷ xs) p k h e = go (eqb i p) refl (λ j. write_at (put l i x) (suc i) xs p j (rw put-length h))
  where
    go : (c : Bool) → eqb i p ≡ c
        → ((j : Known) → get_or (put l i x) p none ≡ some j → get_or (write (put l i x) (suc i) xs) p none ≡ some (after (said_from (suc i) xs p) j))
        → get_or (write (put l i x) (suc i) xs) p none ≡ some (after (cond c x (said_from (suc i) xs p)) k)
    go true t ih =
        let q = eqb-true i p t in
        ih (after x k) (rw q (put_same l p x k h e)) ∙ rw (said-before (suc i) xs p (omega arith))
    go false t ih = ih k (put_other l i x p (λ q. eqb-false i p t (sym q)) ∙ e)

-- the old contents put back
olds-put : (l : List Cell) (i : ℕ) (x : Saying) (j n : ℕ) → i < j → olds_from (put l i x) j n ≡ olds_from l j n
unfolding olds_from
olds-put l i x j zero h = refl
olds-put l i x j (suc n) h = rw (put_other l i x j (omega arith), olds-put l i x (suc j) n (omega arith))

set-put : (l : List Cell) (i : ℕ) (x : Saying) → set (put l i x) i (get_or l i none) ≡ l
unfolding put
set-put l i silent = set-get_or l i none
set-put l i asks = rw (set-set, set-get_or)
set-put l i (tells v) = rw (set-set, set-get_or)

pub restore-write : (l : List Cell) (i : ℕ) (xs : List Saying) (n : ℕ) → length xs ≤ n → restore (write l i xs) i (olds_from l i n) ≡ l
unfolding write olds_from restore
restore-write l i [] zero h = refl
restore-write l i [] (suc n) h = rw (restore-write l (suc i) [] n (omega arith)) (set-get_or l i none)
restore-write l i (x ∷ xs) zero h = absurd (omega arith)
restore-write l i (x ∷ xs) (suc n) h = rw (← (olds-put l i x (suc i) n (omega arith)), restore-write (put l i x) (suc i) xs n (omega arith)) (set-put l i x)
