-- `bench::sending::put_reply` meets its contract. Assumes nothing.
use Rattle.bench.specs.Sending.{reply_bytes}
use mathlib.Core.Path.{◌∙◌}
use borrow.Author.Rules.{rules}
use Rattle.bench.proofs.sending.put_reply.Goals as goal

pub returns : goal.returns
unfolding reply_bytes
returns c = c.put_bytes.ensures ∙ rw (c.written_bytes-bytes.ensures, c.write.ensures)
