-- Demand 3: after any run of frames and steps back, the picture shows exactly what the standing frames tell, place by place, unknown where none does; a
-- step back is granted exactly while the kept count is above zero, which is capped by the depth that the fresh picture named. The proof is proofs/Demand3.antt.
use Rattle.shape.specs.Answers.{Outcome}
use Rattle.std.specs.Prelude.{ℕ, zero, suc, ◌+◌, ◌<◌, ◌≤◌, ◌≡◌, List, [], ◌∷◌, map, length, take, drop, Ok, Err, Some, Option, None}
use Rattle.laws.specs.Refusals.{nothing_kept}
use Rattle.shape.specs.Layout.{size}
use Rattle.history.specs.Standing.{Frame, Event, hear, back, deepest, kept}
use Rattle.history.specs.Names.{WholeIsSixteen}
use Rattle.history.specs.Demand3.{Demand3 as ShowsStanding, doing, run_bytes, runs_bytes, InOrder, ListedIs}
use Rattle.history.specs.Depth.{DepthsNamed, KeptToDepth, NoneAtZero}
use Rattle.history.specs.Sentence.{Sentence, SentenceDecides}
use Rattle.history.specs.Effects.{BackOver, RoomUsedAgain}
use Rattle.questions.specs.Statements.{RowsAreBytes, CountIsOfRow}
use Rattle.recording.specs.Record.{Entry, End, read_record}
use Rattle.replay.specs.Replay.{heard_by, replayed}
use Rattle.replay.specs.Statements.{TurnsAreReplay, AllIsReplay, CallIsTurn}

-- a step back after the events h, from a fresh picture of the depth d
abbrev pub back_after : List ℕ → ℕ → List Event → Outcome
back_after b d h = (doing back (run_bytes b d h)).outcome

abbrev pub Granted : Type 0
Granted = (b : List ℕ) → size ≤ length b → (d : ℕ) → d ≤ deepest → (h : List Event) → 0 < kept d h → back_after b d h ≡ Ok tt

abbrev pub NotGranted : Type 0
NotGranted = (b : List ℕ) → size ≤ length b → (d : ℕ) → d ≤ deepest → (h : List Event) → kept d h ≡ 0 → back_after b d h ≡ Err nothing_kept

-- ---- recordings
-- the frames of a recording's unbroken records, from the offset `at` on, at most so many
abbrev pub frames_by : (ℕ → List Frame) → List ℕ → Entry → List Frame
frames_by rest s (Ok (Some r)) = record { identifier = r.identifier; remote = r.remote; bytes = take r.len (drop r.start s) } ∷ rest r.next
frames_by rest s End = []
frames_by rest s (Err fault) = []

unfoldable pub frames_from : ℕ → List ℕ → ℕ → List Frame
frames_from zero s at = []
frames_from (suc steps) s at = frames_by (frames_from steps s) s (read_record s at)

-- all of them: each takes at least one byte
abbrev pub frames_of : List ℕ → List Frame
frames_of s = frames_from (suc (length s)) s 0

-- what stands after the unbroken records, from the offset `at` on, at most so many: the end, or the first fault
abbrev pub stop_by : (ℕ → Entry) → Entry → Entry
stop_by rest (Ok (Some r)) = rest r.next
stop_by rest End = End
stop_by rest (Err fault) = Err fault

unfoldable pub stop_from : ℕ → List ℕ → ℕ → Entry
stop_from zero s at = End
stop_from (suc steps) s at = stop_by (stop_from steps s) (read_record s at)

abbrev pub stop_of : List ℕ → Entry
stop_of s = stop_from (suc (length s)) s 0

-- its number and its offset, where it is a fault
abbrev pub fault_of : Entry → Option (ℕ × ℕ)
fault_of (Ok entry) = None
fault_of (Err fault) = Some fault

-- its offset, the input's length where it is no fault; and the offset where a replay stopped
abbrev pub offset_of : List ℕ → Entry → ℕ
offset_of s (Ok entry) = length s
offset_of s (Err fault) = fault.1

abbrev pub stopped_at : ℕ → Option (ℕ × ℕ) → ℕ
stopped_at at None = at
stopped_at at (Some fault) = fault.1

-- how many of the frames are accepted, and how many not, heard one after the other
abbrev pub accepting : Outcome → ℕ
accepting (Ok tt) = 1
accepting (Err n) = 0

abbrev pub refusing : Outcome → ℕ
refusing (Ok tt) = 0
refusing (Err n) = 1

unfoldable pub counting : (Outcome → ℕ) → List ℕ → List Frame → ℕ
counting one b [] = 0
counting one b (f ∷ fs) = one (doing (hear f) b).outcome + counting one (doing (hear f) b).buffer fs

-- a recording replayed is its frames heard; heard and refused count the records so answered; and the fault is the recording's, at its offset;
-- where it has none, it was read to its end
pub record Replays (b s : List ℕ) : Type 0 where
  pub picture : (replayed heard_by b s).picture ≡ runs_bytes b (map hear (frames_of s))
  pub heard : (replayed heard_by b s).replay.heard ≡ counting accepting b (frames_of s)
  pub refused : (replayed heard_by b s).replay.refused ≡ counting refusing b (frames_of s)
  pub fault : (replayed heard_by b s).replay.fault ≡ fault_of (stop_of s)
  pub offset : stopped_at (replayed heard_by b s).replay.at (replayed heard_by b s).replay.fault ≡ offset_of s (stop_of s)
  pub whole : (replayed heard_by b s).replay.fault ≡ None → (replayed heard_by b s).replay.at ≡ length s

abbrev pub RecordingsHeard : Type 0
RecordingsHeard = (b s : List ℕ) → Replays b s

pub record Demand3 : Type 0 where
  -- every question, and the answer to every next frame and step back
  pub shows_standing : ShowsStanding
  -- a name is whole exactly where the count that its question gives is 16; and the count is that of the row which the question filled
  pub whole_is_sixteen : WholeIsSixteen
  pub count_is_of_row : CountIsOfRow
  -- and the names and the memory that C is given are the rows of numbers
  pub rows_are_bytes : RowsAreBytes
  -- the demand's sentence: what is known of a place is what the latest standing frame since the entry that names it gave, unknown where none does
  pub sentence : Sentence
  pub sentence_decides : SentenceDecides
  -- in the order in which frames and steps back happen
  pub in_order : InOrder
  -- a step back is granted exactly while the kept count is above zero
  pub granted : Granted
  pub not_granted : NotGranted
  -- which depths a fresh picture may name, and what naming none gives; the cap on the kept count is the depth; depth 0 grants no step at all
  pub depths_named : DepthsNamed
  pub kept_to_depth : KeptToDepth
  pub none_at_zero : NoneAtZero
  -- and brings back every answer; a module entered and stepped back over is gone, and its room is used again
  pub back_over : BackOver
  pub room_used_again : RoomUsedAgain
  pub listed_is : ListedIs
  -- the same of a recording, however it is cut
  pub recordings_heard : RecordingsHeard
  pub turns_are_replay : TurnsAreReplay
  -- and this is what the calls do where nothing is too short
  pub all_is_replay : AllIsReplay
  pub call_is_turn : CallIsTurn
