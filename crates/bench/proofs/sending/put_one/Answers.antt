-- `bench::sending::put_one` meets its contract. Assumes nothing.
use mathlib.Core.Path.{◌∙◌}
use Rattle.bench.proofs.Storing.{one-reply}
use borrow.Author.Rules.{rules}
use Rattle.bench.proofs.sending.put_one.Goals as goal

pub returns : goal.returns
returns c = let a = c.args in c.put_reply.ensures ∙ one-reply a.buffer.now 0 a.a a.m
