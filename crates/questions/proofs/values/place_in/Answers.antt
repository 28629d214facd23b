-- `questions::values::place_in` meets its contract. Assumes nothing.
use borrow.Author.Tests.{lt-ltb}
use Rattle.questions.specs.Replies.{place_reply}
use Rattle.questions.proofs.values.place_in.Goals as goal

pub returns-in-Some : goal.returns-in-Some
unfolding place_reply
returns-in-Some c =
    let place = c.in-Some.is in
    rw (place, lt-ltb _ _ (rw place at c.requires.2), ← c.place_at.ensures) c.told_at.ensures

pub returns-in-None : goal.returns-in-None
unfolding place_reply
returns-in-None c = rw c.in-None.is
