-- `questions::asking::module_asked` meets its contract. Assumes nothing.
use Rattle.std.proofs.Common.{◌≡◌, ◌<◌, ap, sym, ◌∙◌}
use Rattle.std.specs.Prelude.{unwrap_or}
use borrow.Author.Tests.{lt-ltb, le-ltb}
use Rattle.shape.specs.Limits.{room}
use Rattle.shape.specs.Head.{no_slot}
use Rattle.questions.specs.Replies.{slot_asked, module_asked}
use Rattle.questions.proofs.asking.module_asked.Goals as goal

pub returns-then-picture-lt-SIZE-clause-value : goal.returns-then-picture-lt-SIZE-clause-value
unfolding module_asked
returns-then-picture-lt-SIZE-clause-value c = rw (lt-ltb _ _ c.if-picture-lt-SIZE.true)

slot_is : (c : goal.In-Some) → c.in-Some.slot ≡ slot_asked c.args.picture.now c.args.address.0
slot_is c = sym (ap (λ listed. unwrap_or listed no_slot) c.in-Some.is) ∙ c.listed_asked.ensures.value

in_room : (c : goal.In-Some) → c.in-Some.slot < room
in_room c = rw c.in-Some.is at c.listed_asked.ensures.in_room

pub returns-in-Some-clause-value : goal.returns-in-Some-clause-value
unfolding module_asked
returns-in-Some-clause-value c = rw (le-ltb _ _ c.if-picture-lt-SIZE.false, ← slot_is c, lt-ltb _ _ (in_room c))

pub returns-in-Some-clause-found : goal.returns-in-Some-clause-found
returns-in-Some-clause-found c = (c.if-picture-lt-SIZE.false, in_room c, slot_is c)

pub returns-in-None-clause-value : goal.returns-in-None-clause-value
unfolding module_asked
returns-in-None-clause-value c =
    let none : no_slot ≡ slot_asked c.args.picture.now c.args.address.0 = sym (ap (λ listed. unwrap_or listed no_slot) c.in-None.is) ∙ c.listed_asked.ensures.value in
    rw (le-ltb _ _ c.if-picture-lt-SIZE.false, ← none)
