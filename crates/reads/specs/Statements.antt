-- What is shown of the plan, its count, and the test of a proposed plan, for rows of any number of cells. The proofs are in proofs/.
use Rattle.std.specs.Prelude.{ℕ, ◌+◌, ◌*◌, ◌≤◌, ◌<◌, min, ◌≡◌, true, ◌↔◌, List, [], ◌∷◌, length, get_or}
use Rattle.reads.specs.Reads.{Unknown, last_start_of, ReadBy, Covers, RightPlan, LeastNumber}
use Rattle.reads.specs.Plan.{plan_of, least_reads}
use Rattle.reads.specs.Judging.{right_plan}

-- ---- the request's words on the starts
abbrev pub Rising : List ℕ → Type 0
Rising starts = (i j : ℕ) → i < j → j < length starts → get_or starts i 0 < get_or starts j 0

-- the lowest unknown cell that none of the reads done reads
pub record LowestUnread (row done : List ℕ) (cell : ℕ) : Type 0 where
  pub unknown : Unknown row cell
  pub unread : ReadBy done cell → ⊥
  pub lowest : (lower : ℕ) → lower < cell → Unknown row lower → ReadBy done lower

-- each start is, after the reads done, the lowest unknown cell not yet read or, if lower, the last allowed start
abbrev pub AsAsked : List ℕ → List ℕ → List ℕ → Type 0
AsAsked row done [] = Unit {0}
AsAsked row done (start ∷ starts) =
    ((cell : ℕ) × (LowestUnread row done cell × (start ≡ min cell (last_start_of (length row))))) × AsAsked row (start ∷ done) starts

-- ---- the plan
-- every start is legal, no unknown cell is missed, and no shorter list of legal reads would do
abbrev pub PlanIsRight : Type 0
PlanIsRight = (row : List ℕ) → RightPlan row (plan_of row)

abbrev pub PlanRises : Type 0
PlanRises = (row : List ℕ) → Rising (plan_of row)

abbrev pub PlanAsAsked : Type 0
PlanAsAsked = (row : List ℕ) → AsAsked row [] (plan_of row)

-- and these words leave no other list
abbrev pub OnlyPlan : Type 0
OnlyPlan = (row starts : List ℕ) → AsAsked row [] starts → Covers row starts → starts ≡ plan_of row

abbrev pub NothingUnknown : Type 0
NothingUnknown = (row : List ℕ) → ((cell : ℕ) → Unknown row cell → ⊥) → plan_of row ≡ []

-- ---- its count
abbrev pub CountIsLeast : Type 0
CountIsLeast = (row : List ℕ) (n : ℕ) → (n ≡ least_reads row) ↔ LeastNumber row n

-- a list of a quarter as many entries as there are cells, rounded up, is never too short: 32 for 128, 64 for 256
abbrev pub QuarterIsEnough : Type 0
QuarterIsEnough = (row : List ℕ) → 4 * least_reads row ≤ length row + 3

-- ---- a proposed plan: yes exactly if it is right
abbrev pub JudgedRight : Type 0
JudgedRight = (row starts : List ℕ) → (right_plan row starts ≡ true) ↔ RightPlan row starts
