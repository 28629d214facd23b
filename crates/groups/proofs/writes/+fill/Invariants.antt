-- `groups::writes::fill` meets its contract; the measure is the number of groups still allowed. Assumes nothing.
use Rattle.groups.proofs.writes.+fill.Given as goal

abbrev pub decreases-fill : goal.decreases-fill
decreases-fill l = l.left
