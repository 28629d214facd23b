-- What hearing an input in parts comes to, in plain numbers.
use Rattle.std.specs.Prelude.{ℕ, ◌+◌, List, [], ◌∷◌, ◌++◌, length, take, drop, None}
use Rattle.replay.specs.Replay.{Hearing, Run, stopped, replayed}
use Rattle.replay.specs.Window.{kept, kept_fault, fault_further, Stream, begun, turn_over, heard_stream, heard_window}

-- one run, and a second from where the first stopped: counts and offsets add up
abbrev pub then : Run → Run → Run
then r r' = record {
  picture = r'.picture;
  replay = record {
    heard = r.replay.heard + r'.replay.heard;
    refused = r.replay.refused + r'.replay.refused;
    at = r.replay.at + r'.replay.at;
    fault = fault_further r.replay.at r'.replay.fault;
  };
}

-- after some parts: the run over them all, and the bytes that are not yet heard
pub record Parts : Type 0 where
  pub total : Run
  pub left : List ℕ

-- before the first part, with a picture of the bytes b
abbrev pub no_parts : List ℕ → Parts
no_parts b = record { total = stopped b 0 0 0 None; left = [] }

-- the replay of one more part with what was left before it
abbrev pub next_run : Hearing → Parts → List ℕ → Run
next_run hear p part = replayed hear p.total.picture (p.left ++ part)

-- after one more part
abbrev pub one_part : Hearing → Parts → List ℕ → Parts
one_part hear p part = record { total = then p.total (next_run hear p part); left = drop (next_run hear p part).replay.at (p.left ++ part) }

-- after all the parts
unfoldable pub all_parts : Hearing → Parts → List (List ℕ) → Parts
all_parts hear p [] = p
all_parts hear p (part ∷ parts) = all_parts hear (one_part hear p part) parts

-- the whole input
abbrev pub joined : List (List ℕ) → List ℕ
joined [] = []
joined (part ∷ parts) = part ++ joined parts

-- the numbers that are kept of it
abbrev pub stream_of : Parts → Stream
stream_of p = record {
  heard = kept p.total.replay.heard;
  refused = kept p.total.replay.refused;
  base = kept p.total.replay.at;
  left = length p.left;
  fault = kept_fault p.total.replay.fault;
}

-- what a program holds between two turns
pub record Held : Type 0 where
  pub picture : List ℕ
  pub window : List ℕ
  pub stream : Stream

-- the window after `part`, which has room there, was read into it behind its first `left` bytes
abbrev pub read_behind : List ℕ → ℕ → List ℕ → List ℕ
read_behind w left part = take left w ++ (part ++ drop (left + length part) w)

-- one turn: a part is read into the window, and `hear_part` is called
abbrev pub one_turn : Hearing → Held → List ℕ → Held
one_turn hear t part = record {
  picture = (turn_over hear t.picture (read_behind t.window t.stream.left part) t.stream (length part)).picture;
  window = heard_window hear t.picture (read_behind t.window t.stream.left part) t.stream (length part);
  stream = heard_stream hear t.picture (read_behind t.window t.stream.left part) t.stream (length part);
}

-- a turn for each part
unfoldable pub all_turns : Hearing → Held → List (List ℕ) → Held
all_turns hear t [] = t
all_turns hear t (part ∷ parts) = all_turns hear (one_turn hear t part) parts

-- before the first turn
abbrev pub at_first : List ℕ → List ℕ → Held
at_first b w = record { picture = b; window = w; stream = begun }
