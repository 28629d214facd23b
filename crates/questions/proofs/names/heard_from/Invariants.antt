-- `questions::names::heard_from` meets its contract. Assumes nothing.
use Rattle.std.proofs.Common.{◌≡◌, ◌+◌, ◌*◌, ◌≤◌}
use Rattle.questions.specs.Fills.{heard_at, sum_to}
use Rattle.questions.proofs.names.heard_from.Given as goal

-- the places before i are counted
abbrev pub invariant-loop-i : goal.invariant-loop-i
invariant-loop-i l = (l.count ≤ l.i) × (l.count ≡ sum_to (λ i. heard_at l.picture (l.at + 2 * i)) l.i)
