-- What is shown of the calls, over what crate reads shows of a row. The proofs are in proofs/.
use Rattle.std.specs.Prelude.{ℕ, ◌≤◌, ◌<◌, ◌≡◌, ◌↔◌, List, [], ◌∷◌, ◌++◌, length, take, drop, Some, None, Ok}
use Rattle.laws.specs.Limits.{AllBytes}
use Rattle.kinds.specs.Types.{cells_of, last_start}
use Rattle.shape.specs.Limits.{room}
use Rattle.shape.specs.Layout.{size}
use Rattle.shape.specs.Head.{kind_in}
use Rattle.questions.specs.Question.{cell, memory_row}
use Rattle.questions.specs.Replies.{slot_asked, reply}
use Rattle.questions.specs.Statements.{in_bytes, reply_in_bytes}
use Rattle.reads.specs.Reads.{Unknown, last_start_of, LeastNumber}
use Rattle.reads.specs.Plan.{plan_of}
use Rattle.plan.specs.Replies.{memory_in, plan_reply, plan_bytes_reply, right_answer, right_bytes_answer}

-- ---- the row, and its last start, are the module's own
-- the row that the question on its memory fills
abbrev pub RowIsMemory : Type 0
RowIsMemory =
    (b : List ℕ) → size ≤ length b → (a : ℕ) → slot_asked b a < room
    → (out : List ℕ) → length out ≡ length (memory_in b (slot_asked b a)) → (reply b a memory_row out).buffer ≡ memory_in b (slot_asked b a)

-- a cell of it is unknown exactly where the question on that cell says that it is not heard
abbrev pub UnknownIsNotHeard : Type 0
UnknownIsNotHeard =
    (b : List ℕ) → AllBytes b → size ≤ length b → (a : ℕ) → slot_asked b a < room → (location : ℕ) → location < length (memory_in b (slot_asked b a))
    → (out : List ℕ) → Unknown (memory_in b (slot_asked b a)) location ↔ ((reply b a (cell location) out).answer ≡ Ok None)

-- one number for each cell of its type, and the last start is the type's
pub record ModulesRow (b : List ℕ) (s : ℕ) : Type 0 where
  pub cells : length (memory_in b s) ≡ cells_of (kind_in b s)
  pub last : last_start_of (length (memory_in b s)) ≡ last_start (kind_in b s)

abbrev pub RowOfType : Type 0
RowOfType = (b : List ℕ) (s : ℕ) → ModulesRow b s

-- ---- what is answered and written: the count reported is the least number and the length of the list written, which is the plan; the entries beyond
-- keep theirs
pub record Written (row out after : List ℕ) (count : ℕ) : Type 0 where
  pub least : LeastNumber row count
  pub fits : count ≤ length out
  pub plan : take count after ≡ plan_of row
  pub beyond : drop count after ≡ drop count out

abbrev pub WrittenIsPlan : Type 0
WrittenIsPlan =
    (b : List ℕ) (a : ℕ) (out : List ℕ) (count : ℕ) → (plan_reply b a out).answer ≡ Ok (Some count)
    → Written (memory_in b (slot_asked b a)) out (plan_reply b a out).buffer count

-- C is given the same: any list, lent as bytes, is answered alike, and then holds the same; an odd byte more changes nothing and keeps its own
abbrev pub PlanInBytes : Type 0
PlanInBytes = (b : List ℕ) (a : ℕ) (out : List ℕ) → plan_bytes_reply b a (in_bytes out) ≡ reply_in_bytes (plan_reply b a out)

pub record OddByte (b : List ℕ) (a : ℕ) (out : List ℕ) (byte : ℕ) : Type 0 where
  pub answer : (plan_bytes_reply b a (in_bytes out ++ (byte ∷ []))).answer ≡ (plan_reply b a out).answer
  pub buffer : (plan_bytes_reply b a (in_bytes out ++ (byte ∷ []))).buffer ≡ in_bytes (plan_reply b a out).buffer ++ (byte ∷ [])

abbrev pub OddByteIsNoEntry : Type 0
OddByteIsNoEntry = (b : List ℕ) (a : ℕ) (out : List ℕ) (byte : ℕ) → OddByte b a out byte

abbrev pub RightInBytes : Type 0
RightInBytes = (b : List ℕ) (a : ℕ) (starts : List ℕ) → right_bytes_answer b a (in_bytes starts) ≡ right_answer b a starts

-- an odd last byte is no start, so the answer is no
abbrev pub OddByteIsNoPlan : Type 0
OddByteIsNoPlan =
    (b : List ℕ) → size ≤ length b → (a : ℕ) → slot_asked b a < room
    → (starts : List ℕ) (byte : ℕ) → right_bytes_answer b a (in_bytes starts ++ (byte ∷ [])) ≡ Ok (Some 0)
