-- `groups::scan::read_groups` meets its contract; the measure is the number of groups still allowed. Assumes nothing.
use Rattle.groups.proofs.scan.+read_groups.Given as goal

abbrev pub decreases-read_groups : goal.decreases-read_groups
decreases-read_groups l = l.left
