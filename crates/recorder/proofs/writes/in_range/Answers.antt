-- `recorder::writes::in_range` meets its contract. Assumes nothing.
use mathlib.Core.Path.{sym}
use native.Mathlib.Omega.{arith}
use borrow.Author.Tests.{le-leb, lt-leb}
use Rattle.laws.specs.Limits.{most_identifier}
use Rattle.recording.specs.Limits.{most_gap, most_remote, most_count, in_range}
use Rattle.recording.proofs.Ranges.{in_range_lem}
use Rattle.recorder.proofs.writes.in_range.Goals as goal

pub returns-then-gap-gt-MOST_GAP : goal.returns-then-gap-gt-MOST_GAP
unfolding in_range
returns-then-gap-gt-MOST_GAP c = let a = c.args in rw (lt-leb a.gap most_gap (omega arith))

pub returns-then-identifier-gt-MOST_IDENTIFIER : goal.returns-then-identifier-gt-MOST_IDENTIFIER
unfolding in_range
returns-then-identifier-gt-MOST_IDENTIFIER c = let a = c.args in rw (le-leb a.gap most_gap (omega arith), lt-leb a.identifier most_identifier (omega arith))

pub returns-then-remote-gt-MOST_REMOTE : goal.returns-then-remote-gt-MOST_REMOTE
unfolding in_range
returns-then-remote-gt-MOST_REMOTE c =
    let a = c.args in
    rw (le-leb a.gap most_gap (omega arith), le-leb a.identifier most_identifier (omega arith), lt-leb a.remote most_remote (omega arith))

pub returns-then-count-gt-MOST_COUNT : goal.returns-then-count-gt-MOST_COUNT
unfolding in_range
returns-then-count-gt-MOST_COUNT c =
    let a = c.args in
    rw (le-leb a.gap most_gap (omega arith), le-leb a.identifier most_identifier (omega arith), le-leb a.remote most_remote (omega arith), lt-leb a.count most_count (omega arith))

pub returns : goal.returns
returns c =
    let a = c.args in
    sym (in_range_lem a.gap a.identifier a.remote a.count (record { gap_fits = omega arith; identifier-fits = omega arith; remote_fits = omega arith; few = omega arith }))
