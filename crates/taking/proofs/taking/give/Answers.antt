-- `taking::taking::give` meets its contract. Assumes nothing.
use Rattle.taking.proofs.Given.{room, no_room_lem}
use borrow.Author.Rules.{rules}
use Rattle.taking.proofs.taking.give.Goals as goal

pub returns-then-n-replies : goal.returns-then-n-replies
returns-then-n-replies c =
    let a = c.args in
    let n = c.reply_count-n in
    let both = room a.bench.now _ a.replies.now _ a.m n.result n.ensures.by_index c.if-n-replies.true c.act_on.ensures c.reply.ensures in record { value = both.0; bench_after = both.1.0; replies_after = both.1.1 }

pub returns-else-n-replies : goal.returns-else-n-replies
returns-else-n-replies c =
    let a = c.args in
    let n = c.reply_count-n in
    let both = no_room_lem a.bench.now a.replies.now a.m n.result n.ensures.by_index c.if-n-replies.false in record { value = both.0; bench_after = both.1.0; replies_after = both.1.1 }
