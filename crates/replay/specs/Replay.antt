-- A recording heard record by record.
use Rattle.shape.specs.Answers.{Outcome}
use Rattle.std.specs.Prelude.{ℕ, zero, suc, ◌+◌, ◌-◌, Bool, true, false, cond, List, length, take, drop, nat_le, Ok, Err, Some, Result, Option, None, option_map}
use Rattle.laws.specs.Answers as numbers
use Rattle.laws.specs.Refusals.{too_short}
use Rattle.shape.specs.Head.{short}
use Rattle.picture.specs.Hearing.{hearing}
use Rattle.recording.specs.Record.{told_fault, Entry, End, read_record}
use Rattle.laws.specs.declared.refusals.Refusal.{Refusal}
use Rattle.laws.specs.Codes.{code_of}
use Rattle.replay.specs.declared.records.Replay as code

-- what hearing a frame gives: the picture's bytes, and whether the frame was accepted
pub record Heard : Type 0 where
  pub picture : List ℕ
  pub accepted : Bool

-- a hearing: from the picture's bytes, an identifier, a remote flag and data
abbrev pub Hearing : Type 0
Hearing = List ℕ → ℕ → ℕ → List ℕ → Heard

abbrev pub is_done : Outcome → Bool
is_done (Ok tt) = true
is_done (Err n) = false

-- the picture's own hearing
unfoldable pub heard_by : Hearing
heard_by b identifier remote bytes = record { picture = (hearing b identifier remote bytes).buffer; accepted = is_done (hearing b identifier remote bytes).outcome }

-- how much a record adds to the count of those accepted; the rest of 1 is added to those refused
abbrev pub one : Bool → ℕ
one true = 1
one false = 0

-- what a replay comes to: the records accepted and refused, the offset of the first byte that is not read as a record, and the fault there by
-- its refusal number and its offset, where the end is not there
pub record Replay : Type 0 where
  pub heard : ℕ
  pub refused : ℕ
  pub at : ℕ
  pub fault : Option (ℕ × ℕ)

-- the same, of what the code answers
abbrev pub told_replay : code.Replay → Replay
told_replay r = record { heard = r.heard; refused = r.refused; at = r.at; fault = option_map told_fault r.fault }

-- an answer of `hear_all`, so
abbrev pub told_replayed : Result code.Replay Refusal → Result Replay ℕ
told_replayed (Ok r) = Ok (told_replay r)
told_replayed (Err e) = Err (code_of e)

-- what a replay leaves: the picture's bytes, and the answer
pub record Run : Type 0 where
  pub picture : List ℕ
  pub replay : Replay

-- the replay stops at the offset `at`, for the fault there or for the end
abbrev pub stopped : List ℕ → ℕ → ℕ → ℕ → Option (ℕ × ℕ) → Run
stopped b heard refused at fault = record { picture = b; replay = record { heard = heard; refused = refused; at = at; fault = fault } }

-- a record is heard, and the rest follows from the offset past it
abbrev pub counted : (List ℕ → ℕ → ℕ → ℕ → Run) → Heard → ℕ → ℕ → ℕ → Run
counted rest h heard refused next = rest h.picture (heard + one h.accepted) (refused + (1 - one h.accepted)) next

-- by what stands at the offset `at`
abbrev pub run_step : Hearing → (List ℕ → ℕ → ℕ → ℕ → Run) → List ℕ → List ℕ → ℕ → ℕ → ℕ → Entry → Run
run_step hear rest s b heard refused at (Ok (Some r)) = counted rest (hear b r.identifier r.remote (take r.len (drop r.start s))) heard refused r.next
run_step hear rest s b heard refused at End = stopped b heard refused at None
run_step hear rest s b heard refused at (Err fault) = stopped b heard refused at (Some fault)

-- the records from `at` on, at most `steps` of them, after those that were accepted and refused before
unfoldable pub run_from : Hearing → ℕ → List ℕ → List ℕ → ℕ → ℕ → ℕ → Run
run_from hear zero s b heard refused at = stopped b heard refused at None
run_from hear (suc steps) s b heard refused at = run_step hear (run_from hear steps s) s b heard refused at (read_record s at)

-- every record takes at least one byte, so as many steps as there are bytes, and one, reach the end
abbrev pub run_on : Hearing → List ℕ → List ℕ → ℕ → ℕ → ℕ → Run
run_on hear s b heard refused at = run_from hear (suc (length s)) s b heard refused at

-- the recording s heard by a picture of the bytes b
abbrev pub replayed : Hearing → List ℕ → List ℕ → Run
replayed hear b s = run_on hear s b 0 0 0

-- what `hear_all` answers: a picture too short is 13, before anything else
unfoldable pub replay_answer : List ℕ → List ℕ → Result Replay ℕ
replay_answer b s = cond (short b) (Err too_short) (Ok (replayed heard_by b s).replay)

-- in the paper's numbers: what was heard is told beside them
abbrev pub replayed_numbers : Result Replay ℕ → numbers.Numbers
replayed_numbers (Ok r) = numbers.value 0
replayed_numbers (Err n) = numbers.refusal n

-- and the picture then; a refusal changes no byte
unfoldable pub replay_picture : List ℕ → List ℕ → List ℕ
replay_picture b s = cond (short b) b (replayed heard_by b s).picture

-- a call on a picture of the bytes b that takes `need` of a buffer's `have` bytes: refused where either is too short
abbrev pub with_room : {A : Type 0} → List ℕ → ℕ → ℕ → A → A → A
with_room b need have refused done = cond (short b) refused (cond (nat_le need have) done refused)
