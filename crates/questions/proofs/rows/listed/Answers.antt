-- `questions::rows::listed` meets its contract. Assumes nothing.
use mathlib.Core.Path.{refl}
use borrow.Author.Tests.{lt-ltb, le-ltb}
use Rattle.questions.specs.Replies.{listing}
use Rattle.questions.proofs.Replying.{both_of}
use Rattle.questions.proofs.Filling.{fill-short, fill_done}
use Rattle.questions.proofs.rows.listed.Goals as goal

pub returns-then-picture-lt-SIZE : goal.returns-then-picture-lt-SIZE
unfolding listing
returns-then-picture-lt-SIZE c = let short = lt-ltb _ _ c.if-picture-lt-SIZE.true in record { value = rw short; out_after = rw short }

pub returns-then-out : goal.returns-then-out
unfolding listing
returns-then-out c = let long = le-ltb _ _ c.if-picture-lt-SIZE.false in record { value = rw long (both_of (fill-short _ _ _ _ refl c.if-out.true)).0; out_after = rw long (both_of (fill-short _ _ _ _ refl c.if-out.true)).1 }

pub returns : goal.returns
unfolding listing
returns c = let long = le-ltb _ _ c.if-picture-lt-SIZE.false in record { value = rw long (both_of (fill_done _ _ _ _ refl c.if-out.false refl c.fill_listed.ensures)).0; out_after = rw long (both_of (fill_done _ _ _ _ refl c.if-out.false refl c.fill_listed.ensures)).1 }
