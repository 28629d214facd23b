-- The plan's starts rise, each is as the request says, and no other list is. Assumes nothing.
use Prim.Native.Nat.{ℕ, zero, suc, ◌+◌, ◌-◌, ◌≤◌, ◌<◌, min}
use native.Mathlib.Omega.{arith}
use native.Mathlib.Decide.{dec_lt}
use mathlib.Core.Bool.{Bool, true, false, cond}
use mathlib.Core.Path.{◌≡◌, refl, sym, ap, ◌∙◌, subst}
use mathlib.Core.Logic.{◌⊎◌, inl, inr, ⊎_elim}
use mathlib.Core.List.{List, [], ◌∷◌}
use lib.ListN.{length, get_or, drop}
use borrow.Author.Tests.{eqb-true, eqb-false}
use Rattle.shape.specs.Limits.{not_heard}
use Rattle.reads.specs.Reads.{Unknown, last_start_of, ReadBy}
use Rattle.reads.specs.Plan.{unknown, start_for, with_read, plan_from, plan_of}
use Rattle.reads.specs.Statements.{Rising, LowestUnread, AsAsked, PlanRises, PlanAsAsked, OnlyPlan}
use Rattle.reads.proofs.Steps.{inside, next_cell, this_cell, in_row}
use Rattle.reads.proofs.Fewest.{plan_is_right}

-- ---- the starts rise
abbrev Above : ℕ → List ℕ → Type 0
Above b starts = (i : ℕ) → i < length starts → b < get_or starts i 0

above_cons : (b start : ℕ) (starts : List ℕ) → b < start → Above b starts → Above b (start ∷ starts)
above_cons b start starts h a zero l = h
above_cons b start starts h a (suc i) l = a i (omega arith)

above_go : (t : Bool) (b cells cell : ℕ) (more : List ℕ) → cell < cells → b + 4 ≤ cell → Above b more → Above b (with_read t (start_for cells cell) more)
above_go true b cells cell more h l m = above_cons b (start_for cells cell) more (omega arith) m
above_go false b cells cell more h l m = m

-- four cells on from a start, every start is above it
above_from : (b cells cell k : ℕ) (vs : List ℕ) → cells ≡ cell + length vs → b + 4 ≤ cell + k → Above b (plan_from cells cell k vs)
unfolding plan_from
above_from b cells cell k [] e h = λ i l. absurd (omega arith)
above_from b cells cell (suc k) (v ∷ vs) e h = above_from b cells (cell + 1) k vs (omega arith) (omega arith)
above_from b cells cell zero (v ∷ vs) e h =
    above_go (unknown v) b cells cell (plan_from cells (cell + 1) (cond (unknown v) 3 0) vs) (omega arith) (omega arith)
    (above_from b cells (cell + 1) (cond (unknown v) 3 0) vs (omega arith) (omega arith))

rising_cons : (start : ℕ) (starts : List ℕ) → Above start starts → Rising starts → Rising (start ∷ starts)
rising_cons start starts a r i zero h l = absurd (omega arith)
rising_cons start starts a r zero (suc j) h l = a j (omega arith)
rising_cons start starts a r (suc i) (suc j) h l = r i j (omega arith) (omega arith)

rising_go : (t : Bool) (start : ℕ) (more : ℕ → List ℕ) → Above start (more 3) → ((k : ℕ) → Rising (more k)) → Rising (with_read t start (more (cond t 3 0)))
rising_go true start more a m = rising_cons start (more 3) a (m 3)
rising_go false start more a m = m 0

rising_from : (cells cell k : ℕ) (vs : List ℕ) → cells ≡ cell + length vs → Rising (plan_from cells cell k vs)
unfolding plan_from
rising_from cells cell k [] e = λ i j h l. absurd (omega arith)
rising_from cells cell (suc k) (v ∷ vs) e = rising_from cells (cell + 1) k vs (omega arith)
rising_from cells cell zero (v ∷ vs) e =
    rising_go (unknown v) (start_for cells cell) (λ k. plan_from cells (cell + 1) k vs)
    (above_from (start_for cells cell) cells (cell + 1) 3 vs (omega arith) (omega arith)) (λ k. rising_from cells (cell + 1) k vs (omega arith))

pub plan_rises : PlanRises
unfolding plan_of
plan_rises row = rising_from (length row) 0 0 row (omega arith)

-- ---- each start is as asked. The reads done have read every unknown cell below `from`, and none from there on
record Done (row done : List ℕ) (from : ℕ) : Type 0 where
  below : (cell : ℕ) → cell < from → Unknown row cell → ReadBy done cell
  beyond : (cell : ℕ) → from ≤ cell → ReadBy done cell → ⊥

done_at : (row done : List ℕ) {a b : ℕ} → a ≡ b → Done row done a → Done row done b
done_at row done e d = subst (Done row done) e d

-- one read more
done-read : (row done : List ℕ) (cell : ℕ) → cell < length row → Done row done cell → Done row (start_for (length row) cell ∷ done) (cell + 4)
done-read row done cell h d =
    record {
      below = λ c l u. go c l u (dec_lt c cell);
      beyond = λ c l r. ⊎_elim (λ near. omega (arith, near.1)) (λ far. d.beyond c (omega arith) far) r;
    }
  where
    go : (c : ℕ) → c < cell + 4 → Unknown row c → Dec (c < cell) → ReadBy (start_for (length row) cell ∷ done) c
    go c l u (yes m) = inr (d.below c m u)
    go c l u (no m) = let i = inside row c u in inl (omega arith, omega arith)

-- one known cell more
done_known : (row done : List ℕ) (cell : ℕ) → (get_or row cell 0 ≡ not_heard → ⊥) → Done row done cell → Done row done (cell + 1)
done_known row done cell k d = record { below = λ c l u. go c l u (dec_lt c cell); beyond = λ c l r. d.beyond c (omega arith) r }
  where
    go : (c : ℕ) → c < cell + 1 → Unknown row c → Dec (c < cell) → ReadBy done c
    go c l u (yes m) = d.below c m u
    go c l u (no m) = let e : c ≡ cell = omega arith in absurd (omega (arith, ap (λ (x : ℕ). get_or row x 0) e))

asked_go : (b : Bool) (row done : List ℕ) (cell v : ℕ) (more : ℕ → List ℕ) → unknown v ≡ b → get_or row cell 0 ≡ v → cell < length row → Done row done cell
    → ((done' : List ℕ) (k : ℕ) → Done row done' (cell + 1 + k) → AsAsked row done' (more k))
    → AsAsked row done (with_read b (start_for (length row) cell) (more (cond b 3 0)))
asked_go true row done cell v more t g h d m = (
  (cell, (record { unknown = rw g (eqb-true v not_heard t); unread = d.beyond cell (omega arith); lowest = d.below }, refl)),
  m (start_for (length row) cell ∷ done) 3 (done_at row (start_for (length row) cell ∷ done) (omega arith) (done-read row done cell h d)),
)
asked_go false row done cell v more t g h d m =
    m done 0 (done_at row done (omega arith) (done_known row done cell (omega (arith, g, eqb-false v not_heard t)) d))

asked_from : (row done : List ℕ) (cell k : ℕ) (vs : List ℕ) → vs ≡ drop cell row → Done row done (cell + k) → AsAsked row done (plan_from (length row) cell k vs)
unfolding plan_from
asked_from row done cell k [] e d = tt
asked_from row done cell (suc k) (v ∷ vs) e d = asked_from row done (cell + 1) k vs (next_cell row cell v vs e) (done_at row done (omega arith) d)
asked_from row done cell zero (v ∷ vs) e d =
    asked_go (unknown v) row done cell v (λ k. plan_from (length row) (cell + 1) k vs) refl
    (this_cell row cell v vs e) (in_row row cell v vs e) (done_at row done (omega arith) d)
    (λ done' k d'. asked_from row done' (cell + 1) k vs (next_cell row cell v vs e) d')

pub plan_as_asked : PlanAsAsked
unfolding plan_of
plan_as_asked row = asked_from row [] 0 0 row refl (record { below = λ c l u. absurd (omega arith); beyond = λ c l r. r })

-- ---- and no other list is
same_lowest : (row done : List ℕ) (a b : ℕ) → LowestUnread row done a → LowestUnread row done b → a ≡ b
same_lowest row done a b p q = go (dec_lt a b) (dec_lt b a)
  where
    go : Dec (a < b) → Dec (b < a) → a ≡ b
    go (yes l) e = absurd (p.unread (q.lowest a l p.unknown))
    go (no l) (yes m) = absurd (q.unread (p.lowest b m q.unknown))
    go (no l) (no m) = omega arith

-- the reads done and the list together miss no unknown cell
abbrev Completes : List ℕ → List ℕ → List ℕ → Type 0
Completes row done starts = (cell : ℕ) → Unknown row cell → ReadBy done cell ⊎ ReadBy starts cell

done_first : (row done : List ℕ) (start : ℕ) (starts : List ℕ) → Completes row done (start ∷ starts) → Completes row (start ∷ done) starts
done_first row done start starts c cell u = ⊎_elim (λ d. inl (inr d)) (λ r. ⊎_elim (λ n. inl (inl n)) (λ f. inr f) r) (c cell u)

left_over : (row done : List ℕ) (cell : ℕ) → LowestUnread row done cell → Completes row done [] → ⊥
left_over row done cell l c = ⊎_elim l.unread (λ r. r) (c cell l.unknown)

same-plan : (row done xs ys : List ℕ) → AsAsked row done xs → AsAsked row done ys → Completes row done xs → Completes row done ys → xs ≡ ys
same-plan row done [] [] a b c d = refl
same-plan row done [] (y ∷ ys) a b c d = absurd (left_over row done b.0.0 b.0.1.0 c)
same-plan row done (x ∷ xs) [] a b c d = absurd (left_over row done a.0.0 a.0.1.0 d)
same-plan row done (x ∷ xs) (y ∷ ys) a b c d =
    let e : y ≡ x = b.0.1.1 ∙ ap (λ (n : ℕ). min n (last_start_of (length row))) (same_lowest row done b.0.0 a.0.0 b.0.1.0 a.0.1.0) ∙ sym a.0.1.1 in
    let b' : AsAsked row (x ∷ done) ys = subst (λ (s : ℕ). AsAsked row (s ∷ done) ys) e b.1 in
    let d' : Completes row (x ∷ done) ys = subst (λ (s : ℕ). Completes row (s ∷ done) ys) e (done_first row done y ys d) in
    ap (λ (l : List ℕ). x ∷ l) (same-plan row (x ∷ done) xs ys a.1 b' (done_first row done x xs c) d') ∙ ap (λ (s : ℕ). s ∷ ys) (sym e)

pub only_plan : OnlyPlan
only_plan row starts a c = same-plan row [] starts (plan_of row) a (plan_as_asked row) (λ cell u. inr (c cell u)) (λ cell u. inr ((plan_is_right row).covers cell u))
