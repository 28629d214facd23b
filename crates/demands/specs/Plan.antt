-- W-205: the plan of fewest reads. What a right plan is, that the plan is the one that the request's words give, that its count is the least number and
-- that a proposed plan is judged by it, are the statements of the crate plan; here they are tied to demand 3, in what a technician pays for: hearing the
-- replies of a plan's reads leaves no cell unknown, and no list of fewer CC frames does. The proof is proofs/Plan.antt.
use Rattle.std.specs.Prelude.{ℕ, ◌≤◌, ◌<◌, ◌≡◌, List, [], ◌∷◌, map, length, take, Ok, Some}
use Rattle.laws.specs.Limits.{AllBytes}
use Rattle.kinds.specs.Types.{cells_of}
use Rattle.frame.specs.declared.messages.Command.TheVariants.{BlockTold}
use Rattle.shape.specs.Layout.{size}
use Rattle.questions.specs.Question.{type_of, cell}
use Rattle.questions.specs.Replies.{reply}
use Rattle.history.specs.Standing.{Frame, address, Event, hear, deepest}
use Rattle.history.specs.Demand3.{doing, run_bytes, runs_bytes}
use Rattle.history.specs.Effects.{Reads}
use Rattle.plan.specs.Replies.{plan_reply}
use Rattle.reads.specs.Statements.{PlanIsRight, PlanRises, PlanAsAsked, OnlyPlan, NothingUnknown, CountIsLeast, QuarterIsEnough, JudgedRight}
use Rattle.plan.specs.Statements.{RowIsMemory, UnknownIsNotHeard, RowOfType, WrittenIsPlan, PlanInBytes, OddByteIsNoEntry, RightInBytes, OddByteIsNoPlan}

-- a reply to the block read at `start`: at a module of the type the frame is read as a CC of that address and that start, with any four bytes
pub record ReplyTo (kind a start : ℕ) (f : Frame) : Type 0 where
  pub at : address f ≡ a
  pub first : ℕ
  pub second : ℕ
  pub third : ℕ
  pub fourth : ℕ
  pub read : Reads kind f (BlockTold (record { 0 = start }) first second third fourth)

-- a reply for each start, in order
abbrev pub RepliesTo : ℕ → ℕ → List ℕ → List Frame → Type 0
RepliesTo kind a [] [] = Unit {0}
RepliesTo kind a [] (f ∷ fs) = ⊥
RepliesTo kind a (start ∷ starts) [] = ⊥
RepliesTo kind a (start ∷ starts) (f ∷ fs) = ReplyTo kind a start f × RepliesTo kind a starts fs

-- the picture after the frames, heard one after the other
abbrev pub hearing : List ℕ → List Frame → List ℕ
hearing picture fs = runs_bytes picture (map hear fs)

-- each of them is accepted
abbrev pub AllAccepted : List ℕ → List Frame → Type 0
AllAccepted picture [] = Unit {0}
AllAccepted picture (f ∷ fs) = ((doing (hear f) picture).outcome ≡ Ok tt) × AllAccepted (doing (hear f) picture).buffer fs

-- the question on every cell of the module is answered by a value
abbrev pub AllTold : List ℕ → ℕ → ℕ → Type 0
AllTold picture a kind = (location : ℕ) → location < cells_of kind → (v : ℕ) × ((reply picture a (cell location) []).answer ≡ Ok (Some v))

-- The plan that the picture gives into the list `out`, of so many reads, for the module at a, whose type is `kind`.
pub record Pays (picture : List ℕ) (a kind : ℕ) (out : List ℕ) (count : ℕ) : Type 0 where
  -- the replies to its reads are all accepted, and leave no cell unknown
  pub accepted : (fs : List Frame) → RepliesTo kind a (take count (plan_reply picture a out).buffer) fs → AllAccepted picture fs
  pub no_cell_unknown : (fs : List Frame) → RepliesTo kind a (take count (plan_reply picture a out).buffer) fs → AllTold (hearing picture fs) a kind
  -- and no list of fewer CC frames does, whatever they start at
  pub none_fewer : (starts : List ℕ) (fs : List Frame) → RepliesTo kind a starts fs → AllTold (hearing picture fs) a kind → count ≤ length fs

-- after any run of frames and steps back from a fresh picture, at every listed module
abbrev pub PlanPays : Type 0
PlanPays =
    (b : List ℕ) → size ≤ length b → (d : ℕ) → d ≤ deepest → (h : List Event) → AllBytes (run_bytes b d h)
    → (a kind : ℕ) → (reply (run_bytes b d h) a type_of []).answer ≡ Ok (Some kind)
    → (out : List ℕ) (count : ℕ) → (plan_reply (run_bytes b d h) a out).answer ≡ Ok (Some count)
    → Pays (run_bytes b d h) a kind out count

pub record Plan : Type 0 where
  -- a right plan: every read legal, no unknown cell missed, none shorter; the plan is one
  pub plan_is_right : PlanIsRight
  -- its starts rise, each as the request says, and those words leave no other list; nothing unknown gives the empty plan
  pub plan_rises : PlanRises
  pub plan_as_asked : PlanAsAsked
  pub only_plan : OnlyPlan
  pub nothing_unknown : NothingUnknown
  -- its count is the least number of reads, and a quarter of the cells is always room enough
  pub count_is_least : CountIsLeast
  pub quarter_is_enough : QuarterIsEnough
  -- a proposed plan, in any order, is judged right exactly if it is
  pub judged_right : JudgedRight
  -- all of it over the module's own memory: the row that its question fills, as many cells as its type has, unknown where the cell's question says so
  pub row_is_memory : RowIsMemory
  pub unknown_is_not_heard : UnknownIsNotHeard
  pub row_of_type : RowOfType
  -- what the calls write and answer, and that C is given the same
  pub written_is_plan : WrittenIsPlan
  pub plan_in_bytes : PlanInBytes
  pub odd_byte_is_no_entry : OddByteIsNoEntry
  pub right_in_bytes : RightInBytes
  pub odd_byte_is_no_plan : OddByteIsNoPlan
  -- and what a technician pays for
  pub plan_pays : PlanPays
