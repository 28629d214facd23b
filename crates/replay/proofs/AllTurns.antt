-- The turns over the parts of an input are the replay over the whole of it.
-- Assumes nothing.
use Rattle.std.proofs.Common.{◌≡◌, ℕ, ◌+◌, ◌≤◌, List, [], ◌∷◌, ◌++◌, length, take, drop, sym, refl, ap, ◌∙◌, append_assoc, arith, length-append, take_at}
use Rattle.replay.specs.Replay.{Hearing, Run}
use Rattle.replay.specs.Window.{kept, kept_fault, Stream}
use Rattle.replay.specs.Parts.{Parts, no_parts, one_part, all_parts, stream_of, Held, read_behind, one_turn, all_turns, at_first}
use Rattle.replay.specs.Statements.{TurnsAreReplay}
use Rattle.replay.proofs.Calls.{call_is_part}
use Rattle.replay.proofs.Turns.{parts_are_whole}

-- what is held is what is kept of the parts so far
record Keeps (p : Parts) (t : Held) : Type 0 where
  stream : t.stream ≡ stream_of p
  picture : t.picture ≡ p.total.picture
  window : take (length p.left) t.window ≡ p.left

behind : (left part w : List ℕ) → take (length left) w ≡ left → read_behind w (length left) part ≡ (left ++ part) ++ drop (length left + length part) w
behind left part w e = ap (λ (l : List ℕ). l ++ (part ++ drop (length left + length part) w)) e ∙ sym (append_assoc left part (drop (length left + length part) w))

-- a turn with what is kept of the parts
one : (hear : Hearing) (p : Parts) (part w : List ℕ) → take (length p.left) w ≡ p.left
    → Keeps (one_part hear p part) (one_turn hear (record { picture = p.total.picture; window = w; stream = stream_of p }) part)
one hear p part w e =
    let v : List ℕ = read_behind w (length p.left) part in
    let rest : List ℕ = drop (length p.left + length part) w in
    let n = length-append p.left part in
    let q : v ≡ (p.left ++ part) ++ rest = behind p.left part w e in
    let long : length p.left + length part ≤ length v = omega (arith, ap length q, length-append (p.left ++ part) rest, n) in
    let front : take (length p.left + length part) v ≡ p.left ++ part =
    ap (take (length p.left + length part)) q ∙ take_at (p.left ++ part) rest (length p.left + length part) n in
    let c = call_is_part hear p part v long front in
    record { stream = c.0; picture = c.1; window = c.2 }

step : (hear : Hearing) (p : Parts) (t : Held) (part : List ℕ) → Keeps p t → Keeps (one_part hear p part) (one_turn hear t part)
step hear p t part k =
    rw (k.stream, k.picture) (one hear p part t.window k.window)

all : (hear : Hearing) (p : Parts) (t : Held) (parts : List (List ℕ)) → Keeps p t → Keeps (all_parts hear p parts) (all_turns hear t parts)
unfolding all_parts all_turns
all hear p t [] k = k
all hear p t (part ∷ parts) k = all hear (one_part hear p part) (one_turn hear t part) parts (step hear p t part k)

pub turns_are_replay : TurnsAreReplay
turns_are_replay hear b w parts =
    let k = all hear (no_parts b) (at_first b w) parts (record { stream = refl; picture = refl; window = refl }) in
    let e = parts_are_whole hear b parts in (
      k.picture ∙ ap (λ (r : Run). r.picture) e,
      ap (λ (s : Stream). s.heard) k.stream ∙ ap (λ (r : Run). kept r.replay.heard) e,
      ap (λ (s : Stream). s.refused) k.stream ∙ ap (λ (r : Run). kept r.replay.refused) e,
      ap (λ (s : Stream). s.base) k.stream ∙ ap (λ (r : Run). kept r.replay.at) e,
      ap (λ (s : Stream). s.fault) k.stream ∙ ap (λ (r : Run). kept_fault r.replay.fault) e,
    )
