-- Laws of places told that the code's proofs cite.
--     written_also, written_four places written in two goes, and four one after the other
--     has_room                   what the guard shows
--     left_alone, told_all       a run behind its guard: nothing is done, and from what the calls did
--     told_in_lem                a run that lies in a record is told
-- Assumes nothing.
use Rattle.std.proofs.Common.{◌≡◌, ℕ, zero, suc, ◌+◌, ◌*◌, ◌<◌, ◌≤◌, Bool, true, false, not, List, [], ◌∷◌, length, take, drop, ◌∙◌, arith}
use lib.Seq.{take-nil}
use borrow.Author.Tests.{not-true, not-false}
use Rattle.places.specs.Places.{places}
use Rattle.places.specs.Runs.{Run, Saying}
use Rattle.shape.specs.Limits.{room}
use Rattle.shape.specs.Layout.{size, place_at}
use Rattle.steering.specs.Steps.{stepped}
use Rattle.stores.specs.Stores.{put_at, written}
use Rattle.stores.specs.Log.{lies_in, saved, saved_in}
use Rattle.stores.proofs.Within.{within, lies_true, saved_in_lem}
use Rattle.changes.specs.Telling.{told_bytes, told_in}

-- ---- places written in two goes: the first m of a row of sayings, and then n more
written_on : (b : List ℕ) (o : ℕ) (row : List Saying) (m n : ℕ) → written (written b o (take m row)) (o + 2 * m) (take n (drop m row)) ≡ written b o (take (m + n) row)
unfolding written
written_on b o row zero n =
    let e : o + 2 * 0 ≡ o = omega arith in
    let p : 0 + n ≡ n = omega arith in
    rw (e, p)
written_on b o [] (suc m) n = rw (take-nil n, take-nil (suc m + n))
written_on b o (x ∷ row) (suc m) n =
    let e : o + 2 * suc m ≡ o + 2 + 2 * m = omega arith in
    let p : suc m + n ≡ suc (m + n) = omega arith in
    rw (e, p, written_on (put_at b o x) (o + 2) row m n)

pub written_also :
    (b : List ℕ) (o : ℕ) (row : List Saying) (m n : ℕ) {x y : List ℕ} →
    x ≡ written b o (take m row) →
    y ≡ written x (o + 2 * m) (take n (drop m row)) →
    y ≡ written b o (take (m + n) row)
written_also b o row m n p q = q ∙ rw p (written_on b o row m n)

pub written_four :
    (b : List ℕ) (o : ℕ) (row : List Saying) {x y z w : List ℕ} →
    x ≡ written b o (take 1 row) →
    y ≡ written x (o + 2) (take 1 (drop 1 row)) →
    z ≡ written y (o + 4) (take 1 (drop 2 row)) →
    w ≡ written z (o + 6) (take 1 (drop 3 row)) →
    w ≡ written b o (take 4 row)
written_four b o row p q r t = written_also b o row 3 1 (written_also b o row 2 1 (written_also b o row 1 1 p q) r) t

-- ---- behind the guard there is room for all the places
pub has_room : (bytes s start n : ℕ) {lies : Bool} → lies ≡ lies_in bytes s start n → lies ≡ true → {o m : ℕ} → o ≡ place_at s start → m ≡ bytes → o + 2 * n ≤ m
has_room bytes s start n {lies} guard h e k =
    let w = within bytes s start n guard h in
    omega (arith, w.long, w.listed, w.ends)

-- ---- a run
module _ (b : List ℕ) (s : ℕ) (r : Run) where
  told_by : {o : ℕ} {x y z : List ℕ} → x ≡ saved b s r.start → o ≡ place_at s r.start → y ≡ written x o r.says → z ≡ stepped y → z ≡ told_bytes b s r
  unfolding told_bytes
  told_by p e q t = t ∙ rw (← p, ← e, ← q)

  pub told_in_lem : size ≤ length b → s < room → r.start + length r.says ≤ places → told_in b s r ≡ told_bytes b s r
  unfolding told_in
  told_in_lem l m e = rw (lies_true (length b) s r.start (length r.says) l m e)

  module _ {lies : Bool} (guard : lies ≡ lies_in (length b) s r.start (length r.says)) where
    pub left_alone : lies ≡ false → b ≡ told_in b s r
    unfolding told_in
    left_alone h = rw (← guard, h)

    pub told_all : lies ≡ true → 0 < length r.says → {o : ℕ} {x y z : List ℕ} → x ≡ saved_in b s r.start → o ≡ place_at s r.start → y ≡ written x o r.says → z ≡ stepped y
        → z ≡ told_in b s r
    unfolding told_in
    told_all h some p e q t =
        let w = within (length b) s r.start (length r.says) guard h in
        rw (← guard, h) (told_by (p ∙ saved_in_lem b s r.start w.long w.listed (omega (arith, w.ends))) e q t)
