-- The calls on a picture's bytes, for every list of bytes. Refusals in order: 13 for the picture, 5, 13 for the list to fill. Assumes nothing.
use Rattle.std.specs.Prelude.{ℕ, ◌+◌, ◌*◌, ◌/◌, ◌%◌, Bool, true, false, cond, ◌&&◌, List, ◌++◌, leb, ltb, eqb, length, drop, Some, Result, Ok, Err}
use Rattle.laws.specs.Refusals.{type_not_known, too_short}
use Rattle.laws.specs.Tab.{tab}
use Rattle.shape.specs.Answers.{Answer}
use Rattle.shape.specs.Limits.{room}
use Rattle.places.specs.Places.{cell_row}
use Rattle.shape.specs.Layout.{place_at}
use Rattle.shape.specs.Head.{short, kind_in}
use Rattle.questions.specs.Question.{Reply, answering, value, refusing}
use Rattle.questions.specs.Fills.{value_at}
use Rattle.questions.specs.Replies.{slot_asked}
use Rattle.questions.specs.Statements.{in_bytes}
use Rattle.reads.specs.Plan.{plan_of, least_reads}
use Rattle.reads.specs.Judging.{right_plan}

-- n neighbouring places, the first of which is at `at`, as numbers; and the memory row of the module in a slot
unfoldable pub row_at : List ℕ → ℕ → ℕ → List ℕ
row_at b at n = tab n (λ i. value_at b (at + 2 * i))

abbrev pub memory_in : List ℕ → ℕ → List ℕ
memory_in b s = row_at b (place_at s (cell_row (kind_in b s)).start) (cell_row (kind_in b s)).count

-- a call on the module at an address, which is handed its slot: 13 for a picture too short, and 5 where no module is listed
unfoldable pub at_module : List ℕ → ℕ → (ℕ → Reply) → List ℕ → Reply
at_module b a says out = cond (short b) (refusing too_short out) (cond (ltb (slot_asked b a) room) (says (slot_asked b a)) (refusing type_not_known out))

-- ---- the plan, laid out as the list is that holds it: entries of 16 bits, or two bytes for each start
abbrev pub as_entries : List ℕ → List ℕ
as_entries starts = starts

-- how many reads it holds, with the plan in the first entries and those beyond as they were; 13, and all as they were, where the list is too short
unfoldable pub laid : (List ℕ → List ℕ) → List ℕ → List ℕ → Reply
laid lay row out =
    cond (leb (length (lay (plan_of row))) (length out)) (value (least_reads row) (lay (plan_of row) ++ drop (length (lay (plan_of row))) out)) (refusing too_short out)

abbrev pub plan_reply : List ℕ → ℕ → List ℕ → Reply
plan_reply b a out = at_module b a (λ s. laid as_entries (memory_in b s) out) out

abbrev pub plan_bytes_reply : List ℕ → ℕ → List ℕ → Reply
plan_bytes_reply b a out = at_module b a (λ s. laid in_bytes (memory_in b s) out) out

-- ---- a proposed plan: 1 for yes, 0 for no
abbrev pub yes_no : Bool → ℕ
yes_no answer = cond answer 1 0

abbrev pub judged : Result Bool ℕ → Answer
judged (Ok true) = Ok (Some 1)
judged (Ok false) = Ok (Some 0)
judged (Err n) = Err n

abbrev pub right_answer : List ℕ → ℕ → List ℕ → Answer
right_answer b a starts = (at_module b a (λ s. answering (Ok (Some (yes_no (right_plan (memory_in b s) starts)))) starts) starts).answer

-- as bytes, two for each start, low byte first: half as many starts as bytes, and whole starts alone can be a plan
abbrev pub starts_in : List ℕ → List ℕ
starts_in bytes = row_at bytes 0 (length bytes / 2)

abbrev pub right_in_bytes : List ℕ → List ℕ → Bool
right_in_bytes row bytes = eqb (length bytes % 2) 0 && right_plan row (starts_in bytes)

abbrev pub right_bytes_answer : List ℕ → ℕ → List ℕ → Answer
right_bytes_answer b a bytes = (at_module b a (λ s. answering (Ok (Some (yes_no (right_in_bytes (memory_in b s) bytes)))) bytes) bytes).answer
