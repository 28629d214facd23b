-- `recording::records::read_word` meets its contract. Assumes nothing.
use native.Mathlib.Omega.{arith}
use Rattle.recording.specs.Limits.{most_word}
use Rattle.recording.proofs.Entries.{past_fits}
use Rattle.recording.proofs.records.read_word.Goals as goal

pub overflow_cast-word : goal.overflow_cast-word
overflow_cast-word c =
    let a = c.args in
    omega (arith, (past_fits a.s.now a.at most_word c.in_ok-word.word c.in_ok-word.next c.in_ok-word.ensures).0)
