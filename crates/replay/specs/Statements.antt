-- What holds of replays; proofs/ proves each statement, for every hearing.
use Rattle.std.specs.Prelude.{◌≡◌, ℕ, ◌+◌, ◌<◌, ◌≤◌, List, ◌++◌, length, take, drop, ◌≢◌, Some, Ok}
use Rattle.laws.specs.Refusals.{bad_number}
use Rattle.shape.specs.Layout.{size}
use Rattle.recording.specs.Limits.{longest}
use Rattle.replay.specs.Replay.{Hearing, heard_by, replayed, replay_answer, replay_picture}
use Rattle.replay.specs.Window.{kept, kept_fault, Stream, begun, turn_over, heard_stream, heard_window, part_answer, part_picture, part_window}
use Rattle.replay.specs.Parts.{then, Parts, no_parts, one_part, all_parts, joined, stream_of, all_turns, at_first}

-- a replay stops within the input
abbrev pub StopsInside : Type 0
StopsInside = (hear : Hearing) (b s : List ℕ) → (replayed hear b s).replay.at ≤ length s

-- the replay of s with more input after it is the replay of s, and then that of what it left with the rest after it
abbrev pub RunsFollow : Type 0
RunsFollow =
    (hear : Hearing) (b s t : List ℕ)
    → replayed hear b (s ++ t) ≡ then (replayed hear b s) (replayed hear (replayed hear b s).picture (drop (replayed hear b s).replay.at s ++ t))

-- an input heard in parts is the input heard as a whole, however it is cut
abbrev pub PartsAreWhole : Type 0
PartsAreWhole = (hear : Hearing) (b : List ℕ) (parts : List (List ℕ)) → (all_parts hear (no_parts b) parts).total ≡ replayed hear b (joined parts)

-- a bad number is the end: no later part changes anything
abbrev pub BadNumberEnds : Type 0
BadNumberEnds = (hear : Hearing) (b s t : List ℕ) (p : ℕ) → (replayed hear b s).replay.fault ≡ Some (bad_number, p) → replayed hear b (s ++ t) ≡ replayed hear b s

-- where no bad number was found, less is left than the longest record
abbrev pub LittleIsLeft : Type 0
LittleIsLeft =
    (hear : Hearing) (b s : List ℕ) → ((p : ℕ) → (replayed hear b s).replay.fault ≢ Some (bad_number, p)) → length s < (replayed hear b s).replay.at + longest

-- a call of `hear_part` is one part: where the window holds what is left and the part after it, the answer is what is kept of one part more,
-- the picture is the one after it, and the window holds what is left then
abbrev pub CallIsPart : Type 0
CallIsPart =
    (hear : Hearing) (p : Parts) (part w : List ℕ) → length p.left + length part ≤ length w → take (length p.left + length part) w ≡ p.left ++ part
    → (heard_stream hear p.total.picture w (stream_of p) (length part) ≡ stream_of (one_part hear p part))
    × ((turn_over hear p.total.picture w (stream_of p) (length part)).picture ≡ (one_part hear p part).total.picture)
    × (take (length (one_part hear p part).left) (heard_window hear p.total.picture w (stream_of p) (length part)) ≡ (one_part hear p part).left)

-- and before the first part nothing is kept
abbrev pub BeginsWithNone : Type 0
BeginsWithNone = (b : List ℕ) → begun ≡ stream_of (no_parts b)

-- the turns over the parts of an input give the counts, how far they came, the fault and the picture of the replay over the whole input
abbrev pub TurnsAreReplay : Type 0
TurnsAreReplay =
    (hear : Hearing) (b w : List ℕ) (parts : List (List ℕ))
    → ((all_turns hear (at_first b w) parts).picture ≡ (replayed hear b (joined parts)).picture)
    × ((all_turns hear (at_first b w) parts).stream.heard ≡ kept (replayed hear b (joined parts)).replay.heard)
    × ((all_turns hear (at_first b w) parts).stream.refused ≡ kept (replayed hear b (joined parts)).replay.refused)
    × ((all_turns hear (at_first b w) parts).stream.base ≡ kept (replayed hear b (joined parts)).replay.at)
    × ((all_turns hear (at_first b w) parts).stream.fault ≡ kept_fault (replayed hear b (joined parts)).replay.fault)

-- what these statements speak of is what is called: in a picture that is long enough `hear_all` is the replay, ...
abbrev pub AllIsReplay : Type 0
AllIsReplay =
    (b s : List ℕ) → size ≤ length b
    → (replay_answer b s ≡ Ok (replayed heard_by b s).replay) × (replay_picture b s ≡ (replayed heard_by b s).picture)

-- ... and where the window holds what is left and the n bytes after it, `hear_part` is the turn
abbrev pub CallIsTurn : Type 0
CallIsTurn =
    (b w : List ℕ) (st : Stream) (n : ℕ) → size ≤ length b → st.left + n ≤ length w
    → (part_answer b w st n ≡ Ok (heard_stream heard_by b w st n))
    × (part_picture b w st n ≡ (turn_over heard_by b w st n).picture)
    × (part_window b w st n ≡ heard_window heard_by b w st n)
