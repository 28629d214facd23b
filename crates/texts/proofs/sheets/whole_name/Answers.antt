-- `texts::sheets::whole_name` meets its contract. Assumes nothing.
use mathlib.Core.Path.{ap, ◌∙◌}
use Rattle.shape.specs.Answers.{Answer}
use Rattle.replay.specs.Replay.{one}
use Rattle.texts.specs.Sheets.{is_whole, whole_name}
use Rattle.texts.proofs.sheets.whole_name.Goals as goal

pub returns-in-Ok : goal.returns-in-Ok
unfolding whole_name
returns-in-Ok c = c.all_heard.ensures ∙ ap (λ (r : Answer). one (is_whole r)) (rw c.in-Ok.is at c.name.ensures.value)

pub returns-in-Err : goal.returns-in-Err
unfolding whole_name
returns-in-Err c = ap (λ (r : Answer). one (is_whole r)) (rw c.in-Err.is at c.name.ensures.value)
