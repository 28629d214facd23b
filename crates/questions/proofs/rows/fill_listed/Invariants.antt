-- `questions::rows::fill_listed` meets its contract. Assumes nothing.
use Rattle.std.proofs.Common.{◌≡◌}
use Rattle.questions.specs.Fills.{filled_to}
use Rattle.questions.specs.Replies.{listed_if}
use Rattle.questions.proofs.rows.fill_listed.Given as goal

-- the first i stand
abbrev pub invariant-loop-i : goal.invariant-loop-i
invariant-loop-i l = l.out ≡ filled_to (listed_if l.picture) l.initial.out l.i
