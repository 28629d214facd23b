-- `texts::plans::put_starts` meets its contract. Assumes nothing.
use Rattle.texts.specs.Text.{Written}
use Rattle.texts.specs.Plans.{starts_text}
use Rattle.texts.proofs.plans.put_starts.Given as goal

-- the starts before this one are put
abbrev pub invariant-loop-start : goal.invariant-loop-start
invariant-loop-start l = Written l.initial.out l.at (starts_text l.starts l.start-index) l.out l.next
