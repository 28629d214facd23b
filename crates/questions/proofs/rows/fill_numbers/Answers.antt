-- `questions::rows::fill_numbers` meets its contract. Assumes nothing.
use Rattle.std.proofs.Common.{◌+◌, ◌*◌, refl}
use Rattle.questions.specs.Fills.{value_at}
use Rattle.questions.proofs.Filling.{filled_none, filled_more}
use Rattle.questions.proofs.rows.fill_numbers.Goals as goal

pub loop-i-init : goal.loop-i-init
loop-i-init c = filled_none _ _

pub loop-i-preserved : goal.loop-i-preserved
loop-i-preserved c =
    let a = c.args in
    filled_more (λ i. value_at a.picture.now (a.at + 2 * i)) _ _ c.loop-i.invariant c.number_at.ensures refl
