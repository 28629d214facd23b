-- `bench::sending::reply_count` meets its contract. Assumes nothing.
use native.Mathlib.Omega.{arith}
use Rattle.replies.specs.Replies.{replies}
use borrow.Author.Rules.{rules}
use Rattle.bench.proofs.sending.reply_count.Goals as goal

pub returns-in-TypeRequest : goal.returns-in-TypeRequest
unfolding replies
returns-in-TypeRequest c = record { by_index = λ b. rw c.in-TypeRequest.is; upper_bound = omega arith }

pub returns-in-Tells : goal.returns-in-Tells
unfolding replies
returns-in-Tells c = record { by_index = λ b. rw c.in-Tells.is (c.answer_count.ensures.by_index b); upper_bound = c.answer_count.ensures.upper_bound }
