-- An input that comes in parts, heard through a window: a buffer whose first bytes are what is not yet heard.
use Rattle.std.specs.Prelude.{ℕ, ◌+◌, ◌-◌, ◌%◌, ◌^◌, List, ◌++◌, length, take, drop, Option, None, option_map, Result, Ok, Err}
use Rattle.laws.specs.Answers as numbers
use Rattle.laws.specs.Refusals.{too_short}
use Rattle.laws.specs.declared.refusals.Refusal.{Refusal}
use Rattle.laws.specs.Codes.{code_of}
use Rattle.replay.specs.declared.window.Stop.{Stop}
use Rattle.replay.specs.declared.window.Stream as code
use Rattle.replay.specs.Replay.{Hearing, Replay, Run, heard_by, replayed, with_room}

-- the window w with its bytes from `from` to `filled` at the front, and every byte after those as it was
abbrev pub shifted : List ℕ → ℕ → ℕ → List ℕ
shifted w from filled = drop from (take filled w) ++ drop (filled - from) w

-- a count as it is kept, in 64 bits
abbrev pub kept : ℕ → ℕ
kept n = n % 2 ^ 64

-- a fault, with its offset kept so
abbrev pub kept_fault : Option (ℕ × ℕ) → Option (ℕ × ℕ)
kept_fault = option_map (λ (f : ℕ × ℕ). (f.0, kept f.1))

-- a fault, found k bytes further on
abbrev pub fault_further : ℕ → Option (ℕ × ℕ) → Option (ℕ × ℕ)
fault_further k = option_map (λ (f : ℕ × ℕ). (f.0, k + f.1))

-- what is kept between two parts
pub record Stream : Type 0 where
  pub heard : ℕ
  pub refused : ℕ
  pub base : ℕ
  pub left : ℕ
  pub fault : Option (ℕ × ℕ)

-- the same, of what the code holds
abbrev pub told_stop : Stop → ℕ × ℕ
told_stop stop = (stop.refusal, stop.offset)

abbrev pub told_stream : code.Stream → Stream
told_stream st = record { heard = st.heard; refused = st.refused; base = st.base; left = st.left; fault = option_map told_stop st.fault }

-- an answer of `hear_part`, so
abbrev pub told_part : Result code.Stream Refusal → Result Stream ℕ
told_part (Ok st) = Ok (told_stream st)
told_part (Err e) = Err (code_of e)

-- nothing is heard yet
abbrev pub begun : Stream
begun = record { heard = 0; refused = 0; base = 0; left = 0; fault = None }

-- after a replay r of the window's first `filled` bytes
abbrev pub advanced : Stream → Replay → ℕ → Stream
advanced st r filled = record {
  heard = kept (st.heard + r.heard);
  refused = kept (st.refused + r.refused);
  base = kept (st.base + r.at);
  left = filled - r.at;
  fault = kept_fault (fault_further st.base r.fault);
}

-- the replay of a part of n bytes with what was left before it
abbrev pub turn_over : Hearing → List ℕ → List ℕ → Stream → ℕ → Run
turn_over hear b w st n = replayed hear b (take (st.left + n) w)

-- what is kept after the part
abbrev pub heard_stream : Hearing → List ℕ → List ℕ → Stream → ℕ → Stream
heard_stream hear b w st n = advanced st (turn_over hear b w st n).replay (st.left + n)

-- and the window then
abbrev pub heard_window : Hearing → List ℕ → List ℕ → Stream → ℕ → List ℕ
heard_window hear b w st n = shifted w (turn_over hear b w st n).replay.at (st.left + n)

-- what `hear_part` answers: a picture too short, or a window too short for the part after what was left, is 13
unfoldable pub part_answer : List ℕ → List ℕ → Stream → ℕ → Result Stream ℕ
part_answer b w st n = with_room b (st.left + n) (length w) (Err too_short) (Ok (heard_stream heard_by b w st n))

-- in the paper's numbers
abbrev pub part_numbers : Result Stream ℕ → numbers.Numbers
part_numbers (Ok st) = numbers.value 0
part_numbers (Err n) = numbers.refusal n

-- and the picture and the window then; a refusal changes no byte of either
unfoldable pub part_picture : List ℕ → List ℕ → Stream → ℕ → List ℕ
part_picture b w st n = with_room b (st.left + n) (length w) b (turn_over heard_by b w st n).picture

unfoldable pub part_window : List ℕ → List ℕ → Stream → ℕ → List ℕ
part_window b w st n = with_room b (st.left + n) (length w) w (heard_window heard_by b w st n)
