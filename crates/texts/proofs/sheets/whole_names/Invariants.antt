-- `texts::sheets::whole_names` meets its contract. Assumes nothing.
use Rattle.std.proofs.Common.{◌≡◌, ◌+◌, ◌≤◌}
use Rattle.questions.specs.Fills.{sum_to}
use Rattle.texts.specs.Sheets.{whole_name}
use Rattle.texts.proofs.sheets.whole_names.Given as goal

-- the names before i are counted
abbrev pub invariant-loop-i : goal.invariant-loop-i
invariant-loop-i l = (l.count ≤ l.i) × (l.count ≡ sum_to (λ i. whole_name l.picture l.address (i + 1)) l.i)
