-- Two results that satisfy a promise are equal, as specs/Promises.antt states it. Assumes nothing.
use mathlib.Core.Path.{◌≡◌, sym, ◌∙◌}
use Rattle.laws.specs.Promises.{OneAnswer, OneResult, OneOutcome, NoChoice}

pub of_answer : {A : Type 0} (x : A) → OneAnswer x
of_answer x r r' p q = p ∙ sym q

pub of_lent : {A B : Type 0} (answer : A) (contents : B) → OneResult answer contents
of_lent answer contents r r' left left' p q = (of_answer answer r r' p.answers q.answers, of_answer contents left left' p.leaves q.leaves)

pub of_two_lent : {A B C : Type 0} (answer : A) (first : B) (second : C) → OneOutcome answer first second
of_two_lent answer first second r r' left left' also also' p q = (
  of_answer answer r r' p.answers q.answers,
  of_answer first left left' p.leaves_first q.leaves_first,
  of_answer second also also' p.leaves_second q.leaves_second,
)

pub no_choice : NoChoice
no_choice = record { of_answer = of_answer; of_lent = of_lent; of_two_lent = of_two_lent }
