-- `sight::laying::lay_last` meets its contract. Assumes nothing.
use Rattle.std.proofs.Common.{◌∙◌, rules}
use Rattle.sight.proofs.laying.lay_last.Goals as goal

pub returns : goal.returns
returns c = c.lay.ensures ∙ rw (c.byte_at-d.ensures, c.byte_at-c.ensures, c.byte_at-b.ensures, c.byte_at-a.ensures)
