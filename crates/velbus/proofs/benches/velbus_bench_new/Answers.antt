-- `velbus::benches::velbus_bench_new` meets its contract. Assumes nothing.
use borrow.Author.Rules.{rules}
use Rattle.velbus.proofs.benches.velbus_bench_new.Goals as goal

pub returns : goal.returns
returns c = record { value = rw (← c.bench_new.ensures.value, ← c.by_code.ensures) c.outcome_word.ensures; bench_after = c.bench_new.ensures.bench_after }
