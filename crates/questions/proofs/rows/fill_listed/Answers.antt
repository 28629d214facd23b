-- `questions::rows::fill_listed` meets its contract. Assumes nothing.
use Rattle.questions.specs.Replies.{listed_if}
use Rattle.questions.proofs.Filling.{filled_none, filled_more}
use Rattle.questions.proofs.rows.fill_listed.Goals as goal

pub loop-i-init : goal.loop-i-init
loop-i-init c = filled_none _ _

pub loop-i-preserved : goal.loop-i-preserved
loop-i-preserved c = filled_more (listed_if c.args.picture.now) _ _ c.loop-i.invariant c.listed_if.ensures c.put_at.ensures
