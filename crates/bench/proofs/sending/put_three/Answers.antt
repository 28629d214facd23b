-- `bench::sending::put_three` meets its contract. Assumes nothing.
use Rattle.bench.proofs.Storing.{three_replies}
use borrow.Author.Rules.{rules}
use Rattle.bench.proofs.sending.put_three.Goals as goal

pub returns : goal.returns
returns c =
    let a = c.args in
    three_replies a.buffer.now c.put_reply.new.buffer c.put_reply-2.new.buffer c.put_reply-3.new.buffer a.a a.x a.y a.z
    c.put_reply.ensures c.put_reply-2.ensures c.put_reply-3.ensures
