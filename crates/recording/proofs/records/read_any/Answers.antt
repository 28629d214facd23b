-- `recording::records::read_any` meets its contract. Assumes nothing.
use mathlib.Core.Path.{sym, ap, ◌∙◌}
use native.Mathlib.Omega.{arith}
use Rattle.std.proofs.lemmas.Result.{err_from_is_err_and}
use Rattle.recording.specs.Record.{followed, read_word}
use Rattle.recording.proofs.Entries.{gap_first, past_end}
use Rattle.recording.proofs.records.read_any.Goals as goal

pub returns-then-s-at : goal.returns-then-s-at
returns-then-s-at c = let a = c.args in sym (past_end a.s.now a.at (omega arith))

pub returns-in_err-gap : goal.returns-in_err-gap
returns-in_err-gap c =
    let a = c.args in
    let p = err_from_is_err_and c.from_residual.result c.from_residual.ensures.1 in
    rw (p.1, p.2) (ap (λ n. followed n (read_word a.s.now)) c.in_err-gap.ensures ∙ gap_first a.s.now a.at (omega arith))

pub returns : goal.returns
returns c =
    let a = c.args in
    c.read_word.ensures ∙ ap (λ n. followed n (read_word a.s.now)) c.in_ok-gap.ensures ∙ gap_first a.s.now a.at (omega arith)
