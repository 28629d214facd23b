-- Rows of bytes stored, copied, blanked and written: what stands where afterwards, and that no other byte changes. Assumes nothing.
use Prim.Native.Nat.{ℕ, zero, suc, ◌+◌, ◌*◌, ◌<◌, ◌≤◌}
use native.Mathlib.Omega.{arith}
use native.Mathlib.Nat.{zero-add}
use mathlib.Core.Path.{◌≡◌, refl, ◌∙◌}
use mathlib.Core.Bool.{Bool, true, false}
use mathlib.Core.Logic.{◌≢◌}
use mathlib.Core.List.{List, [], ◌∷◌}
use mathlib.Core.Option.{none, some}
use lib.Dec.{eqb}
use lib.ListN.{get_or, set, length, length-set}
use lib.Seq.{get_or-set_same, get_or-set_other}
use borrow.Author.Tests.{eqb-true, eqb-false}
use Rattle.laws.specs.Tab.{tab}
use Rattle.laws.proofs.Tab.{tab-set}
use Rattle.shape.specs.Layout.{place_at}
use Rattle.places.specs.Runs.{Saying, silent, asks, tells}
use Rattle.steering.specs.Fresh.{zeroed}
use Rattle.stores.specs.Stores.{pair, put_at, written, blanked, stored, copied}
use Rattle.questions.specs.Fills.{filled_to}
use Rattle.history.specs.Standing.{unknown}
use Rattle.history.specs.Machine.{Cell, put, write}
use Rattle.history.specs.Refinement.{cell_of, cell_at}

-- The bytes from lo up to hi may have changed, and no other.
pub record Within (lo hi : ℕ) (b c : List ℕ) : Type 0 where
  pub outside : (o : ℕ) → (lo ≤ o → o < hi → ⊥) → get_or c o 0 ≡ get_or b o 0
  pub long : length c ≡ length b

within_none : {lo hi : ℕ} {b : List ℕ} → Within lo hi b b
within_none = record { outside = λ o n. refl; long = refl }

pub within_wider : {lo hi lo' hi' : ℕ} {b c : List ℕ} → lo' ≤ lo → hi ≤ hi' → Within lo hi b c → Within lo' hi' b c
within_wider h k w = record { outside = λ o n. w.outside o (λ p q. n (omega arith) (omega arith)); long = w.long }

pub within-then : {lo hi : ℕ} {b c d : List ℕ} → Within lo hi b c → Within lo hi c d → Within lo hi b d
within-then v w = record { outside = λ o n. w.outside o n ∙ v.outside o n; long = w.long ∙ v.long }

pub within-set : (b : List ℕ) (o v : ℕ) → Within o (suc o) b (set b o v)
within-set b o v = record { outside = λ i n. get_or-set_other b o i v 0 (λ e. n (omega arith) (omega arith)); long = length-set b o v }

within_pair : (b : List ℕ) (o v t : ℕ) → Within o (o + 2) b (pair b o v t)
within_pair b o v t =
    within-then (within_wider (omega arith) (omega arith) (within-set b o v)) (within_wider (omega arith) (omega arith) (within-set (set b o v) (o + 1) t))

-- Bytes laid one after the other from o on: g n is what n of them leave, and v i is the i-th.
pub record Lays (g : ℕ → List ℕ) (b : List ℕ) (o : ℕ) (v : ℕ → ℕ) : Type 0 where
  pub at_first : g 0 ≡ b
  pub one_more : (n : ℕ) → g (suc n) ≡ set (g n) (o + n) (v n)

module _ {g : ℕ → List ℕ} {b : List ℕ} {o : ℕ} {v : ℕ → ℕ} (lays : Lays g b o v) where
  pub laid-within : (n : ℕ) → Within o (o + n) b (g n)
  laid-within zero = rw lays.at_first within_none
  laid-within (suc n) =
      rw (lays.one_more n)
      (within-then (within_wider (omega arith) (omega arith) (laid-within n)) (within_wider (omega arith) (omega arith) (within-set (g n) (o + n) (v n))))

  pub laid_at : (n j : ℕ) → j < n → o + n ≤ length b → get_or (g n) (o + j) 0 ≡ v j
  laid_at zero j h l = absurd (omega arith)
  laid_at (suc n) j h l = rw (lays.one_more n) (go (eqb j n) refl (λ k. laid_at n j k (omega arith)))
    where
      go : (c : Bool) → eqb j n ≡ c → (j < n → get_or (g n) (o + j) 0 ≡ v j) → get_or (set (g n) (o + n) (v n)) (o + j) 0 ≡ v j
      go true e ih = rw (eqb-true j n e) (get_or-set_same (g n) (o + n) (v n) 0 (rw (laid-within n).long (omega arith)))
      go false e ih = let d : j ≢ n = eqb-false j n e in get_or-set_other (g n) (o + n) (o + j) (v n) 0 (omega arith) ∙ ih (omega arith)

-- a row stored, the first bytes made 0, a buffer filled
pub stored_lays : (b : List ℕ) (o : ℕ) (row : List ℕ) → Lays (stored b o row) b o (λ n. get_or row n 0)
unfolding stored
stored_lays b o row = record { at_first = refl; one_more = λ n. refl }

pub zeroed_lays : (b : List ℕ) → Lays (zeroed b) b 0 (λ n. 0)
unfolding zeroed
zeroed_lays b = record { at_first = refl; one_more = λ n. rw zero-add }

pub filled_lays : (f : ℕ → ℕ) (out : List ℕ) → Lays (filled_to f out) out 0 f
unfolding filled_to
filled_lays f out = record { at_first = refl; one_more = λ n. rw zero-add }

-- bytes copied, to where they do not overlap
pub copied_lays : (b : List ℕ) (to from : ℕ) → Lays (copied b to from) b to (λ n. get_or (copied b to from n) (from + n) 0)
unfolding copied
copied_lays b to from = record { at_first = refl; one_more = λ n. refl }

pub copied_at : (b : List ℕ) (to from n j : ℕ) → ((i : ℕ) → i < n → to ≤ from + i → from + i < to + n → ⊥) → j < n → to + n ≤ length b
    → get_or (copied b to from n) (to + j) 0 ≡ get_or b (from + j) 0
copied_at b to from n j apart h l =
    laid_at (copied_lays b to from) n j h l ∙ (laid-within (copied_lays b to from) j).outside (from + j) (λ p q. apart j h p (omega arith))

-- no byte is both from lo up to hi and from `from` up to `to`
abbrev pub Apart : ℕ → ℕ → ℕ → ℕ → Type 0
Apart lo hi from to = (o : ℕ) → from ≤ o → o < to → lo ≤ o → o < hi → ⊥

-- the two bytes of a place
pub cell_outside : {lo hi : ℕ} {b c : List ℕ} → Within lo hi b c → (o : ℕ) → Apart lo hi o (o + 2) → cell_at c o ≡ cell_at b o
unfolding cell_at
cell_outside w o n = rw (w.outside o (n o (omega arith) (omega arith)), w.outside (o + 1) (n (o + 1) (omega arith) (omega arith)))

pair-cell : (b : List ℕ) (o v t : ℕ) → o + 1 < length b → cell_at (pair b o v t) o ≡ cell_of v t
unfolding cell_at
pair-cell b o v t h =
    let d : o ≢ o + 1 = omega arith in
    let l : o + 1 < length (set b o v) = rw length-set h in
    let k : o < length b = omega arith in
    rw (get_or-set_same (set b o v) (o + 1) t 0 l, get_or-set_other (set b o v) (o + 1) o t 0 d, get_or-set_same b o v 0 k)

-- places blanked
pub within-blanked : (b : List ℕ) (o n : ℕ) → Within o (o + 2 * n) b (blanked b o n)
unfolding blanked
within-blanked b o zero = within_none
within-blanked b o (suc n) =
    within-then (within_wider (omega arith) (omega arith) (within-blanked b o n)) (within_wider (omega arith) (omega arith) (within_pair (blanked b o n) (o + 2 * n) 0 1))

pub blanked-cell : (b : List ℕ) (o n j : ℕ) → j < n → o + 2 * n ≤ length b → cell_at (blanked b o n) (o + 2 * j) ≡ some unknown
unfolding blanked
blanked-cell b o zero j h l = absurd (omega arith)
blanked-cell b o (suc n) j h l = go (eqb j n) refl (λ k. blanked-cell b o n j k (omega arith))
  where
    go : (c : Bool) → eqb j n ≡ c → (j < n → cell_at (blanked b o n) (o + 2 * j) ≡ some unknown) → cell_at (pair (blanked b o n) (o + 2 * n) 0 1) (o + 2 * j) ≡ some unknown
    go true e ih = rw (eqb-true j n e) (pair-cell (blanked b o n) (o + 2 * n) 0 1 (rw (within-blanked b o n).long (omega arith)))
    go false e ih =
        let d : j ≢ n = eqb-false j n e in
        cell_outside (within_pair (blanked b o n) (o + 2 * n) 0 1) (o + 2 * j) (λ x p q f g. omega arith) ∙ ih (omega arith)

-- one place told, asked for or left alone
within-put : (b : List ℕ) (o : ℕ) (x : Saying) → Within o (o + 2) b (put_at b o x)
unfolding put_at
within-put b o silent = within_none
within-put b o asks = within_pair b o 0 1
within-put b o (tells v) = within_pair b o v 0

-- the row of the first n places of the record in slot s
abbrev pub row : List ℕ → ℕ → ℕ → List Cell
row b s n = tab n (λ p. cell_at b (place_at s p))

pair_row : (b : List ℕ) (s n i v t : ℕ) → place_at s i + 1 < length b → row (pair b (place_at s i) v t) s n ≡ set (row b s n) i (cell_of v t)
pair_row b s n i v t h =
    tab-set n (λ p. cell_at b (place_at s p)) (λ p. cell_at (pair b (place_at s i) v t) (place_at s p)) i (cell_of v t) none (λ l. pair-cell b (place_at s i) v t h)
    (λ j l d. cell_outside (within_pair b (place_at s i) v t) (place_at s j) (λ x p q f g. omega arith))

put-row : (b : List ℕ) (s n i : ℕ) (x : Saying) → place_at s i + 1 < length b → row (put_at b (place_at s i) x) s n ≡ put (row b s n) i x
unfolding put_at put
put-row b s n i silent h = refl
put-row b s n i asks h = pair_row b s n i 0 1 h
put-row b s n i (tells v) h = pair_row b s n i v 0 h

-- a run
pub within-written : (b : List ℕ) (o : ℕ) (xs : List Saying) → Within o (o + 2 * length xs) b (written b o xs)
unfolding written
within-written b o [] = within_none
within-written b o (x ∷ xs) =
    within-then (within_wider (omega arith) (omega arith) (within-put b o x)) (within_wider (omega arith) (omega arith) (within-written (put_at b o x) (o + 2) xs))

pub written_row : (b : List ℕ) (s n i : ℕ) (xs : List Saying) → place_at s i + 2 * length xs ≤ length b → row (written b (place_at s i) xs) s n ≡ write (row b s n) i xs
unfolding written write
written_row b s n i [] h = refl
written_row b s n i (x ∷ xs) h =
    let q : place_at s i + 2 ≡ place_at s (suc i) = omega arith in
    let l : place_at s (suc i) + 2 * length xs ≤ length (put_at b (place_at s i) x) = rw (within-put b (place_at s i) x).long (omega arith) in
    rw (q, ← (put-row b s n i x (omega arith))) (written_row (put_at b (place_at s i) x) s n (suc i) xs l)
