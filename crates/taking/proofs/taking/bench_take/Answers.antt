-- `taking::taking::bench_take` meets its contract. Assumes nothing.
use Rattle.taking.proofs.Given.{too_short_lem}
use borrow.Author.Rules.{rules}
use Rattle.taking.proofs.taking.bench_take.Goals as goal

pub returns-then-bench-lt-SIZE : goal.returns-then-bench-lt-SIZE
returns-then-bench-lt-SIZE c = let a = c.args in let both = too_short_lem a.bench.now a.«data».now a.replies.now a.identifier a.remote c.if-bench-lt-SIZE.true in record { value = both.0; bench_after = both.1.0; replies_after = both.1.1 }
