-- `bench::leds::put_if` meets its contract. Assumes nothing.
use borrow.Author.Tests.{eq-eqb, ne_eqb}
use borrow.Author.Rules.{rules}
use Rattle.bench.proofs.leds.put_if.Goals as goal

pub returns-then-bit-eq1 : goal.returns-then-bit-eq1
returns-then-bit-eq1 c = rw (eq-eqb _ _ c.if-bit-eq1.true) c.put_at.ensures

pub returns-else-bit-eq1 : goal.returns-else-bit-eq1
returns-else-bit-eq1 c = rw (ne_eqb _ _ c.if-bit-eq1.false)
