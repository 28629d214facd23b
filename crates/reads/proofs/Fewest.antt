-- The plan misses no unknown cell, and no list that misses none is shorter. Assumes nothing.
use Prim.Native.Nat.{ℕ, zero, suc, ◌+◌, ◌-◌, ◌*◌, ◌≤◌, ◌<◌}
use native.Mathlib.Omega.{arith}
use native.Mathlib.Decide.{dec_lt}
use native.Mathlib.Nat.{min-le_right}
use mathlib.Core.Bool.{Bool, true, false, cond, false≢true}
use mathlib.Core.Path.{◌≡◌, refl, sym, ap, subst}
use mathlib.Core.Logic.{◌⊎◌, inl, inr}
use mathlib.Core.List.{List, [], ◌∷◌}
use lib.ListN.{length}
use lib.Dec.{leb}
use borrow.Author.Tests.{le-leb, lt-leb, leb-true, eqb-true, eqb-false}
use Rattle.shape.specs.Limits.{not_heard}
use Rattle.reads.specs.Reads.{Unknown, last_start_of, Reads, AllLegal, ReadBy, Covers}
use Rattle.reads.specs.Plan.{unknown, start_for, with_read, plan_from, plan_of, least_reads}
use Rattle.reads.specs.Statements.{PlanIsRight, CountIsLeast, NothingUnknown, QuarterIsEnough}
use Rattle.reads.proofs.Steps.{inside}

-- ---- every start is legal
legal_go : (b : Bool) (row : List ℕ) (cell : ℕ) (more : List ℕ) → AllLegal row more → AllLegal row (with_read b (start_for (length row) cell) more)
legal_go true row cell more m = (min-le_right cell (last_start_of (length row)), m)
legal_go false row cell more m = m

legal_from : (row : List ℕ) (cell k : ℕ) (vs : List ℕ) → AllLegal row (plan_from (length row) cell k vs)
unfolding plan_from
legal_from row cell k [] = tt
legal_from row cell (suc k) (v ∷ vs) = legal_from row (cell + 1) k vs
legal_from row cell zero (v ∷ vs) =
    legal_go (unknown v) row cell (plan_from (length row) (cell + 1) (cond (unknown v) 3 0) vs) (legal_from row (cell + 1) (cond (unknown v) 3 0) vs)

-- ---- no unknown cell is missed
pub moved : (starts : List ℕ) {a b : ℕ} → a ≡ b → ReadBy starts a → ReadBy starts b
moved starts e r = subst (ReadBy starts) e r

-- a read for a cell reads the cells up to three on, as far as there are cells
near : (cells cell i : ℕ) → cell + i < cells → i ≤ 3 → Reads (start_for cells cell) (cell + i)
near cells cell i h l = (omega arith, omega arith)

covers_go : (b : Bool) (cells cell v : ℕ) (vs : List ℕ) → unknown v ≡ b → cells ≡ cell + suc (length vs)
    → ((k i : ℕ) → k ≤ i → Unknown vs i → ReadBy (plan_from cells (cell + 1) k vs) (cell + 1 + i))
    → (i : ℕ) → Unknown (v ∷ vs) i → ReadBy (with_read b (start_for cells cell) (plan_from cells (cell + 1) (cond b 3 0) vs)) (cell + i)
covers_go true cells cell v vs t e more zero u = inl (near cells cell 0 (omega arith) (omega arith))
covers_go true cells cell v vs t e more (suc i) u = far (dec_lt i 3)
  where
    far : Dec (i < 3) → Reads (start_for cells cell) (cell + suc i) ⊎ ReadBy (plan_from cells (cell + 1) 3 vs) (cell + suc i)
    far (yes l) = inl (near cells cell (suc i) (omega (arith, inside vs i u)) (omega arith))
    far (no l) = inr (moved (plan_from cells (cell + 1) 3 vs) (omega arith) (more 3 i (omega arith) u))
covers_go false cells cell v vs t e more zero u = absurd (omega (arith, eqb-false v not_heard t))
covers_go false cells cell v vs t e more (suc i) u = moved (plan_from cells (cell + 1) 0 vs) (omega arith) (more 0 i (omega arith) u)

covers_from : (cells cell : ℕ) (vs : List ℕ) → cells ≡ cell + length vs → (k i : ℕ) → k ≤ i → Unknown vs i → ReadBy (plan_from cells cell k vs) (cell + i)
unfolding plan_from
covers_from cells cell [] e k i h u = absurd (omega arith)
covers_from cells cell (v ∷ vs) e (suc k) zero h u = absurd (omega arith)
covers_from cells cell (v ∷ vs) e (suc k) (suc i) h u =
    moved (plan_from cells (cell + 1) k vs) (omega arith) (covers_from cells (cell + 1) vs (omega arith) k i (omega arith) u)
covers_from cells cell (v ∷ vs) e zero i h u = covers_go (unknown v) cells cell v vs refl e (covers_from cells (cell + 1) vs (omega arith)) i u

-- ---- no shorter list will do: how many of a list's reads reach the cell or one beyond it
unfoldable pub reaching : ℕ → List ℕ → ℕ
reaching cell [] = 0
reaching cell (start ∷ starts) = cond (leb cell (start + 3)) 1 0 + reaching cell starts

one_less : (b c : Bool) → (c ≡ true → b ≡ true) → cond c 1 0 ≤ cond b 1 0
one_less true true f = omega arith
one_less true false f = omega arith
one_less false false f = omega arith
one_less false true f = absurd (false≢true (f refl))

one_reach : (cell far start : ℕ) → cell ≤ far → cond (leb far (start + 3)) 1 0 ≤ cond (leb cell (start + 3)) 1 0
one_reach cell far start h =
    one_less (leb cell (start + 3)) (leb far (start + 3)) (λ t. le-leb cell (start + 3) (omega (arith, leb-true far (start + 3) t)))

reach_less : (cell far : ℕ) (starts : List ℕ) → cell ≤ far → reaching far starts ≤ reaching cell starts
unfolding reaching
reach_less cell far [] h = omega arith
reach_less cell far (start ∷ starts) h = omega (arith, one_reach cell far start h, reach_less cell far starts h)

one_at_most : (b : Bool) → cond b 1 0 ≤ 1
one_at_most true = omega arith
one_at_most false = omega arith

reach_all : (cell : ℕ) (starts : List ℕ) → reaching cell starts ≤ length starts
unfolding reaching
reach_all cell [] = omega arith
reach_all cell (start ∷ starts) = omega (arith, one_at_most (leb cell (start + 3)), reach_all cell starts)

-- the read that reads a cell does not reach four cells on
reach_read : (cell : ℕ) (starts : List ℕ) → ReadBy starts cell → suc (reaching (cell + 4) starts) ≤ reaching cell starts
unfolding reaching
reach_read cell [] r = absurd r
reach_read cell (start ∷ starts) (inl r) =
    rw (le-leb cell (start + 3) (omega (arith, r.1)), lt-leb (cell + 4) (start + 3) (omega arith)) (omega (arith, reach_less cell (cell + 4) starts (omega arith)))
reach_read cell (start ∷ starts) (inr r) = omega (arith, one_reach cell (cell + 4) start (omega arith), reach_read cell starts r)

fewest_go : (b : Bool) (cells cell v : ℕ) (vs starts : List ℕ) → unknown v ≡ b → (Unknown (v ∷ vs) 0 → ReadBy starts cell)
    → ((k : ℕ) → length (plan_from cells (cell + 1) k vs) ≤ reaching (cell + 1 + k) starts)
    → length (with_read b (start_for cells cell) (plan_from cells (cell + 1) (cond b 3 0) vs)) ≤ reaching cell starts
fewest_go true cells cell v vs starts t r more =
    omega (arith, more 3, reach_read cell starts (r (eqb-true v not_heard t)), ap (λ (c : ℕ). reaching c starts) (four cell))
  where
    four : (c : ℕ) → c + 1 + 3 ≡ c + 4
    four c = omega arith
fewest_go false cells cell v vs starts t r more = omega (arith, more 0, reach_less cell (cell + 1 + 0) starts (omega arith))

fewest_from : (cells cell : ℕ) (vs starts : List ℕ) → ((i : ℕ) → Unknown vs i → ReadBy starts (cell + i)) → (k : ℕ) → length (plan_from cells cell k vs) ≤ reaching (cell + k) starts
unfolding plan_from
fewest_from cells cell [] starts r k = omega arith
fewest_from cells cell (v ∷ vs) starts r (suc k) =
    omega (arith, fewest_from cells (cell + 1) vs starts (λ i u. moved starts (omega arith) (r (suc i) u)) k, ap (λ (c : ℕ). reaching c starts) (on cell k))
  where
    on : (c k : ℕ) → c + 1 + k ≡ c + suc k
    on c k = omega arith
fewest_from cells cell (v ∷ vs) starts r zero =
    omega (
      arith,
      fewest_go (unknown v) cells cell v vs starts refl (λ u. moved starts (omega arith) (r 0 u))
          (fewest_from cells (cell + 1) vs starts (λ i u. moved starts (omega arith) (r (suc i) u))),
      ap (λ (c : ℕ). reaching c starts) (none cell),
    )
  where
    none : (c : ℕ) → c ≡ c + 0
    none c = omega arith

-- ---- the plan is right
pub plan_fewest : (row starts : List ℕ) → Covers row starts → length (plan_of row) ≤ length starts
unfolding plan_of
plan_fewest row starts r =
    omega (arith, fewest_from (length row) 0 row starts (λ i u. moved starts (omega arith) (r i u)) 0, reach_all (0 + 0) starts)

pub plan_is_right : PlanIsRight
unfolding plan_of
plan_is_right row =
    record {
      legal = legal_from row 0 0 row;
      covers = λ cell u. moved (plan_from (length row) 0 0 row) (omega arith) (covers_from (length row) 0 row (omega arith) 0 cell (omega arith) u);
      fewest = λ starts l r. omega (arith, plan_fewest row starts r);
    }

-- ---- its count
pub count_is_least : CountIsLeast
unfolding least_reads
count_is_least row n = (
  λ e. (plan_of row, (plan_is_right row, sym e)),
  λ l. omega (arith, l.1.1, l.1.0.fewest (plan_of row) (plan_is_right row).legal (plan_is_right row).covers, plan_fewest row l.0 l.1.0.covers),
)

empty : (starts : List ℕ) → length starts ≤ 0 → starts ≡ []
empty [] h = refl
empty (s ∷ ss) h = absurd (omega arith)

pub nothing_unknown : NothingUnknown
nothing_unknown row n = empty (plan_of row) (plan_fewest row [] (λ cell u. n cell u))

-- ---- four cells for each read
quarter_go : (b : Bool) (start : ℕ) (more : List ℕ) (n : ℕ) → 4 * length more + cond b 3 0 ≤ n + 3 → 4 * length (with_read b start more) ≤ suc n + 3
quarter_go true start more n h = omega arith
quarter_go false start more n h = omega arith

three : (b : Bool) → cond b 3 0 ≤ 3
three true = omega arith
three false = omega arith

quarter_from : (cells cell k : ℕ) (vs : List ℕ) → k ≤ 3 → 4 * length (plan_from cells cell k vs) + k ≤ length vs + 3
unfolding plan_from
quarter_from cells cell k [] h = omega arith
quarter_from cells cell (suc k) (v ∷ vs) h = omega (arith, quarter_from cells (cell + 1) k vs (omega arith))
quarter_from cells cell zero (v ∷ vs) h =
    omega (
      arith,
      quarter_go (unknown v) (start_for cells cell) (plan_from cells (cell + 1) (cond (unknown v) 3 0) vs) (length vs)
          (quarter_from cells (cell + 1) (cond (unknown v) 3 0) vs (three (unknown v))),
    )

pub quarter_is_enough : QuarterIsEnough
unfolding least_reads plan_of
quarter_is_enough row = omega (arith, quarter_from (length row) 0 0 row (omega arith))
