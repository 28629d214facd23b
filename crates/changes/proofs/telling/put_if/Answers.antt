-- `changes::telling::put_if` meets its contract. Assumes nothing.
use Rattle.std.proofs.Common.{sym, ◌∙◌, rules, eq-eqb, ne_eqb}
use Rattle.stores.specs.Stores.{put_at}
use Rattle.changes.proofs.telling.put_if.Goals as goal

pub returns-then-bit-eq1 : goal.returns-then-bit-eq1
unfolding put_at
returns-then-bit-eq1 c = rw (eq-eqb _ 1 (sym c.bit.ensures ∙ c.if-bit-eq1.true)) c.put_pair.ensures

pub returns-else-bit-eq1 : goal.returns-else-bit-eq1
unfolding put_at
returns-else-bit-eq1 c = rw (ne_eqb _ 1 (λ e. c.if-bit-eq1.false (c.bit.ensures ∙ e)))
