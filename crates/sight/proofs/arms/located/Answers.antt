-- `sight::arms::located` meets its contract. Assumes nothing.
use Rattle.std.proofs.Common.{◌∙◌, rules}
use Rattle.sight.proofs.arms.located.Goals as goal

pub returns : goal.returns
returns c = c.both.ensures ∙ rw (c.both-near.ensures, c.byte_at-2.ensures, c.byte_at.ensures)
