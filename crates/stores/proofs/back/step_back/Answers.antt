-- `stores::back::step_back` meets its contract. Assumes nothing.
use Rattle.std.proofs.Common.{sym, ◌∙◌, rules, le-ltb, lt-ltb, eq-eqb, ne_eqb}
use Rattle.stores.specs.Stepping.{stepping_back}
use Rattle.stores.proofs.back.step_back.Goals as goal

pub returns-then-picture-lt-SIZE : goal.returns-then-picture-lt-SIZE
unfolding stepping_back
returns-then-picture-lt-SIZE c = let short = lt-ltb _ _ c.if-picture-lt-SIZE.true in record { value = rw short; picture_after = rw short }

pub returns-then-kept_of-eq0 : goal.returns-then-kept_of-eq0
unfolding stepping_back
returns-then-kept_of-eq0 c =
    let long = le-ltb _ _ c.if-picture-lt-SIZE.false in
    let none = eq-eqb _ _ (sym c.kept_of.ensures ∙ c.if-kept_of-eq0.true) in
    record { value = rw (long, none); picture_after = rw (long, none) }

pub returns : goal.returns
unfolding stepping_back
returns c =
    let long = le-ltb _ _ c.if-picture-lt-SIZE.false in
    let some = ne_eqb _ _ (λ e. c.if-kept_of-eq0.false (c.kept_of.ensures ∙ e)) in
    record { value = rw (long, some); picture_after = rw (long, some) c.back_over.ensures }
