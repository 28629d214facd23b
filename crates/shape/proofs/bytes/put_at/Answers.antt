-- `shape::bytes::put_at` meets its contract. Assumes nothing.
use mathlib.Core.Path.{sym}
use lib.Seq.{set_out}
use borrow.Author.Rules.{rules}
use Rattle.shape.proofs.bytes.put_at.Goals as goal

pub returns-else-i-s : goal.returns-else-i-s
returns-else-i-s c = sym (set_out c.args.s.now c.args.i c.args.v c.if-i-s.false)
