-- `texts::sheets::told_in` meets its contract. Assumes nothing.
use Rattle.std.proofs.Common.{◌≡◌, ◌≤◌, get_or}
use Rattle.questions.specs.Fills.{sum_to}
use Rattle.texts.specs.Sheets.{told_number}
use Rattle.texts.proofs.sheets.told_in.Given as goal

-- the numbers before this one are counted
abbrev pub invariant-loop-number : goal.invariant-loop-number
invariant-loop-number l = (l.count ≤ l.number-index) × (l.count ≡ sum_to (λ i. told_number (get_or l.row i 0)) l.number-index)
