-- `sight::words::any_word` meets its contract. Assumes nothing.
use Rattle.std.proofs.Common.{rules}
use Rattle.sight.proofs.words.any_word.Goals as goal

pub returns : goal.returns
returns c = record { answered = rw (← c.bench_take.ensures.value) c.taken_word.ensures; bench_after = c.bench_take.ensures.bench_after; buffer_after = c.bench_take.ensures.replies_after }
