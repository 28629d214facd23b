-- `stores::bytes::put_pair` meets its contract. Assumes nothing.
use Rattle.std.proofs.Common.{◌+◌, sym, ◌∙◌, arith, length-set, rules}
use lib.Seq.{set_out}
use Rattle.stores.proofs.bytes.put_pair.Goals as goal

pub returns-then-at-s : goal.returns-then-at-s
returns-then-at-s c = rw (← c.put_at.ensures) c.put_at-then-at-s.ensures

pub returns-else-at-s : goal.returns-else-at-s
returns-else-at-s c =
    let a = c.args in
    c.put_at.ensures ∙ sym (set_out _ (a.at + 1) a.high (simp length-set (omega (arith, c.put_at.auto.s))))
