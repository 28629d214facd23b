-- `questions::values::type_of` meets its contract. Assumes nothing.
use mathlib.Core.List.{[]}
use Rattle.questions.specs.Question.{type_of}
use Rattle.questions.specs.Replies.{reply_as}
use Rattle.questions.proofs.Replying.{both_of, handed_on, refused_before, found_replies}
use Rattle.questions.proofs.values.type_of.Goals as goal

pub returns-in_err-slot : goal.returns-in_err-slot
returns-in_err-slot c = rw (handed_on c.from_residual.result c.from_residual.ensures.1) (both_of (refused_before _ _ type_of [] c.module_asked.ensures.value c.in_err-slot.was)).0

pub returns : goal.returns
unfolding reply_as
returns c = rw (← found_replies _ _ type_of [] c.module_asked.ensures.value c.in_ok-slot.was, ← c.kind_in.ensures, ← c.wide16.ensures)
