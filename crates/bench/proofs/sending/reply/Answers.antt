-- `bench::sending::reply` meets its contract. Assumes nothing.
use Rattle.replies.specs.Replies.{replies}
use borrow.Author.Rules.{rules}
use Rattle.bench.proofs.sending.reply.Goals as goal

pub returns-in-TypeRequest : goal.returns-in-TypeRequest
unfolding replies
returns-in-TypeRequest c = rw (c.in-TypeRequest.is, ← c.byte_at-a.ensures) c.put_type.ensures

pub returns-in-Tells : goal.returns-in-Tells
unfolding replies
returns-in-Tells c = rw (c.in-Tells.is, ← c.byte_at-a.ensures) c.answer.ensures
