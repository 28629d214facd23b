-- `questions::values::blind` meets its contract. Assumes nothing.
use mathlib.Core.Path.{◌∙◌}
use mathlib.Core.List.{[]}
use Rattle.questions.specs.Question.{blind}
use Rattle.questions.specs.Replies.{reply_as}
use Rattle.questions.proofs.Replying.{both_of, handed_on, refused_before, found_replies}
use Rattle.questions.proofs.values.blind.Goals as goal

pub returns-in_err-slot : goal.returns-in_err-slot
returns-in_err-slot c = rw (handed_on c.from_residual.result c.from_residual.ensures.1) (both_of (refused_before _ _ (blind c.args.number) [] c.module_asked.ensures.value c.in_err-slot.was)).0

pub returns : goal.returns
unfolding reply_as
returns c = rw (c.blind_asked.ensures.value, c.kind_in.ensures) at c.place_in.ensures ∙ (both_of (found_replies _ _ (blind c.args.number) [] c.module_asked.ensures.value c.in_ok-slot.was)).0
