-- `recording::records::read_count` meets its contract. Assumes nothing.
use Rattle.recording.specs.Limits.{most_count}
use Rattle.recording.proofs.Entries.{past_fits}
use Rattle.recording.proofs.records.read_count.Goals as goal

pub overflow_sub-s : goal.overflow_sub-s
overflow_sub-s c =
    let a = c.args in
    (past_fits a.s.now a.at most_count c.in_ok-count.count c.in_ok-count.start c.in_ok-count.ensures).1
