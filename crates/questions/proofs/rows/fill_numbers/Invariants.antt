-- `questions::rows::fill_numbers` meets its contract. Assumes nothing.
use Rattle.std.proofs.Common.{◌≡◌, ◌+◌, ◌*◌}
use Rattle.questions.specs.Fills.{filled_to, value_at}
use Rattle.questions.proofs.rows.fill_numbers.Given as goal

-- the first i stand
abbrev pub invariant-loop-i : goal.invariant-loop-i
invariant-loop-i l = l.out ≡ filled_to (λ i. value_at l.picture (l.at + 2 * i)) l.initial.out l.i
