-- A proposed plan is judged right exactly if it is. Assumes nothing.
use Prim.Native.Nat.{ℕ, zero, suc, ◌+◌, ◌-◌}
use native.Mathlib.Omega.{arith}
use mathlib.Core.Bool.{Bool, true, false, ◌&&◌, not, false≢true}
use mathlib.Core.Path.{◌≡◌, refl}
use mathlib.Core.Logic.{◌⊎◌, inl, inr, ⊎_elim}
use mathlib.Core.List.{List, [], ◌∷◌}
use lib.ListN.{length}
use lib.Dec.{leb, ltb, eqb}
use borrow.Author.Tests.{le-leb, leb-true, lt-ltb, ltb-true, eqb-true, eq-eqb}
use Rattle.shape.specs.Limits.{not_heard}
use Rattle.reads.specs.Reads.{Unknown, block, last_start_of, Reads, AllLegal, ReadBy, RightPlan}
use Rattle.reads.specs.Plan.{unknown, least_reads}
use Rattle.reads.specs.Judging.{all_legal, reads, read_by, missed, none_missed, right_plan}
use Rattle.reads.specs.Statements.{JudgedRight}
use Rattle.reads.proofs.Tests.{and_left, and_right, and_both, or_cases, or_left, or_right}
use Rattle.reads.proofs.Fewest.{moved, plan_is_right, count_is_least}

-- ---- each start is legal
legal_yes : (row starts : List ℕ) → all_legal (length row) starts ≡ true → AllLegal row starts
unfolding all_legal
legal_yes row [] e = tt
legal_yes row (s ∷ ss) e = (
  leb-true s (last_start_of (length row)) (and_left (leb s (last_start_of (length row))) (all_legal (length row) ss) e),
  legal_yes row ss (and_right (leb s (last_start_of (length row))) (all_legal (length row) ss) e),
)

yes_legal : (row starts : List ℕ) → AllLegal row starts → all_legal (length row) starts ≡ true
unfolding all_legal
yes_legal row [] l = refl
yes_legal row (s ∷ ss) l = and_both (leb s (last_start_of (length row))) (all_legal (length row) ss) (le-leb s (last_start_of (length row)) l.0) (yes_legal row ss l.1)

-- ---- one of the reads reads the cell
one_yes : (start cell : ℕ) → reads start cell ≡ true → Reads start cell
one_yes start cell e = (
  leb-true start cell (and_left (leb start cell) (ltb cell (start + block)) e),
  ltb-true cell (start + block) (and_right (leb start cell) (ltb cell (start + block)) e),
)

yes_one : (start cell : ℕ) → Reads start cell → reads start cell ≡ true
yes_one start cell r = and_both (leb start cell) (ltb cell (start + block)) (le-leb start cell r.0) (lt-ltb cell (start + block) r.1)

read_yes : (starts : List ℕ) (cell : ℕ) → read_by starts cell ≡ true → ReadBy starts cell
unfolding read_by
read_yes [] cell e = absurd (false≢true e)
read_yes (s ∷ ss) cell e = ⊎_elim (λ t. inl (one_yes s cell t)) (λ t. inr (read_yes ss cell t)) (or_cases (reads s cell) (read_by ss cell) e)

yes_read : (starts : List ℕ) (cell : ℕ) → ReadBy starts cell → read_by starts cell ≡ true
unfolding read_by
yes_read [] cell r = absurd r
yes_read (s ∷ ss) cell r = ⊎_elim (λ t. or_left (reads s cell) (read_by ss cell) (yes_one s cell t)) (λ t. or_right (reads s cell) (read_by ss cell) (yes_read ss cell t)) r

-- ---- no cell is missed
miss_yes : (u r : Bool) → not (u && not r) ≡ true → u ≡ true → r ≡ true
miss_yes true true e t = refl
miss_yes true false e t = e
miss_yes false r e t = absurd (false≢true t)

yes_miss : (u r : Bool) → (u ≡ true → r ≡ true) → not (u && not r) ≡ true
yes_miss true true f = refl
yes_miss true false f = f refl
yes_miss false r f = refl

none_yes : (starts : List ℕ) (cell : ℕ) (vs : List ℕ) → none_missed starts cell vs ≡ true → (i : ℕ) → Unknown vs i → ReadBy starts (cell + i)
unfolding none_missed missed
none_yes starts cell [] e i u = absurd (omega arith)
none_yes starts cell (v ∷ vs) e zero u =
    moved starts (omega arith)
    (read_yes starts cell (miss_yes (unknown v) (read_by starts cell) (and_left (not (unknown v && not (read_by starts cell))) (none_missed starts (cell + 1) vs) e) (eq-eqb v not_heard u)))
none_yes starts cell (v ∷ vs) e (suc i) u =
    moved starts (omega arith) (none_yes starts (cell + 1) vs (and_right (not (unknown v && not (read_by starts cell))) (none_missed starts (cell + 1) vs) e) i u)

yes_none : (starts : List ℕ) (cell : ℕ) (vs : List ℕ) → ((i : ℕ) → Unknown vs i → ReadBy starts (cell + i)) → none_missed starts cell vs ≡ true
unfolding none_missed missed
yes_none starts cell [] r = refl
yes_none starts cell (v ∷ vs) r =
    and_both (not (unknown v && not (read_by starts cell))) (none_missed starts (cell + 1) vs)
    (yes_miss (unknown v) (read_by starts cell) (λ t. yes_read starts cell (moved starts (omega arith) (r 0 (eqb-true v not_heard t)))))
    (yes_none starts (cell + 1) vs (λ i u. moved starts (omega arith) (r (suc i) u)))

-- ---- the plan
right_yes : (row starts : List ℕ) → right_plan row starts ≡ true → RightPlan row starts
unfolding right_plan least_reads
right_yes row starts e =
    let l = eqb-true (length starts) (least_reads row) (and_left (eqb (length starts) (least_reads row)) (all_legal (length row) starts && none_missed starts 0 row) e) in
    let m = and_right (eqb (length starts) (least_reads row)) (all_legal (length row) starts && none_missed starts 0 row) e in
    record {
      legal = legal_yes row starts (and_left (all_legal (length row) starts) (none_missed starts 0 row) m);
      covers = λ cell u. moved starts (omega arith) (none_yes starts 0 row (and_right (all_legal (length row) starts) (none_missed starts 0 row) m) cell u);
      fewest = λ others a c. omega (arith, l, (plan_is_right row).fewest others a c);
    }

yes_right : (row starts : List ℕ) → RightPlan row starts → right_plan row starts ≡ true
unfolding right_plan
yes_right row starts r =
    and_both (eqb (length starts) (least_reads row)) (all_legal (length row) starts && none_missed starts 0 row)
    (eq-eqb (length starts) (least_reads row) ((count_is_least row (length starts)).1 (starts, (r, refl))))
    (and_both (all_legal (length row) starts) (none_missed starts 0 row) (yes_legal row starts r.legal)
    (yes_none starts 0 row (λ i u. moved starts (omega arith) (r.covers i u))))

pub judged_right : JudgedRight
judged_right row starts = (right_yes row starts, yes_right row starts)
