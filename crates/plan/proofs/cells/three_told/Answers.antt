-- `plan::cells::three_told` meets its contract. Assumes nothing.
use Rattle.laws.proofs.Testing.{not_both}
use Rattle.plan.proofs.cells.three_told.Goals as goal

pub returns-then-second-ne0 : goal.returns-then-second-ne0
returns-then-second-ne0 c y = not_both y

pub returns-then-third-ne0 : goal.returns-then-third-ne0
returns-then-third-ne0 c y = not_both y

pub returns-then-fourth-ne0 : goal.returns-then-fourth-ne0
returns-then-fourth-ne0 c y = not_both y
