-- `sight::words::take_word` meets its contract. Assumes nothing.
use Rattle.std.proofs.Common.{ap, ◌∙◌, rules}
use Rattle.results.specs.Words.{refused_word}
use Rattle.sight.specs.Words.{taken_word}
use Rattle.taking.proofs.Given.{too_short_lem}
use Rattle.sight.proofs.words.take_word.Goals as goal

pub returns-then-bench-lt-SIZE : goal.returns-then-bench-lt-SIZE
returns-then-bench-lt-SIZE c =
    let a = c.args in
    let g = too_short_lem a.bench.now a.«data».now a.replies.now a.identifier a.remote c.if-bench-lt-SIZE.true in
    record { value = c.refused.ensures ∙ ap refused_word c.code.ensures ∙ ap taken_word g.0; bench_after = g.1.0; replies_after = g.1.1 }

pub returns : goal.returns
returns c =
    let t = c.take_own.ensures in
    record {
      value = rw c.if-remote-ne0.false t.answered;
      bench_after = rw c.if-remote-ne0.false t.bench_after;
      replies_after = rw c.if-remote-ne0.false t.buffer_after;
    }
