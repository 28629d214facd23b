-- `questions::values::kept` meets its contract. Assumes nothing.
use borrow.Author.Tests.{lt-ltb, le-ltb}
use Rattle.questions.specs.Replies.{kept_answer}
use Rattle.questions.proofs.values.kept.Goals as goal

pub returns-then-picture-lt-SIZE : goal.returns-then-picture-lt-SIZE
unfolding kept_answer
returns-then-picture-lt-SIZE c = rw (lt-ltb _ _ c.if-picture-lt-SIZE.true)

pub returns : goal.returns
unfolding kept_answer
returns c = rw (le-ltb _ _ c.if-picture-lt-SIZE.false, ← c.kept_of.ensures, ← c.wide16.ensures)
