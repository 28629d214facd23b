use Rattle.std.proofs.Common.{◌∙◌}
use Rattle.verdicts.specs.Verdicts.{judged}
use Rattle.verdicts.proofs.verdicts.judge.Goals as goal

pub returns : goal.returns
unfolding judged
returns c = c.judge_by.ensures ∙ rw (c.read.ensures, c.backwards-sent.ensures, c.byte_at.ensures, c.is_own-own.ensures)
