-- `replay::window::turn` meets its contract. Assumes nothing.
use Rattle.std.proofs.Common.{◌≡◌, ℕ, ◌-◌, ◌≤◌, List, length, take, sym, ap, subst, ◌∙◌, arith, length-take-le}
use native.Mathlib.Nat.{sub-zero}
use Rattle.replay.specs.Replay.{Replay, heard_by, replayed}
use Rattle.replay.proofs.Runs.{stops_inside}
use Rattle.replay.proofs.window.turn.Goals as goal
use Rattle.replay.proofs.window.turn.Goals.{After-hear_records-r}

-- the records were read up to the last byte that is filled, or before
inside : (c : After-hear_records-r) → c.hear_records-r.result.at ≤ c.args.filled
inside c =
    let w = c.args.window.now in
    let k = c.args.filled in
    let long : length (take (k - 0) w) ≡ k - 0 = length-take-le (k - 0) w (omega (arith, c.requires)) in
    let h : c.hear_records-r.result.at ≤ length (take (k - 0) w) = subst (λ (r : Replay). r.at ≤ length (take (k - 0) w)) (sym c.hear_records-r.ensures.value) (stops_inside heard_by c.args.picture.now (take (k - 0) w)) in
    omega arith

pub shift-requires : goal.shift-requires
shift-requires c = (omega (arith, inside (goal.at.shift-requires c).After-hear_records-r), omega (arith, c.requires))

pub returns : goal.returns
returns c =
    let a = c.args in
    let h = c.hear_records-r in
    let w = a.window.now in
    let same : take (a.filled - 0) w ≡ take a.filled w = ap (λ (n : ℕ). take n w) (sub-zero a.filled) in record { value = h.ensures.value ∙ ap (λ (l : List ℕ). (replayed heard_by a.picture.now l).replay) same; picture_after = h.ensures.picture_after ∙ ap (λ (l : List ℕ). (replayed heard_by a.picture.now l).picture) same; window_after = c.shift.ensures }
