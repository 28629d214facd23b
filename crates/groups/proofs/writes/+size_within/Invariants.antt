-- `groups::writes::size_within` meets its contract; the measure is the number of groups still allowed. Assumes nothing.
use Rattle.groups.proofs.writes.+size_within.Given as goal

abbrev pub decreases-size_within : goal.decreases-size_within
decreases-size_within l = l.left
