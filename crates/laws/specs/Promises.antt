-- The shapes of our contracts, in the papers' numbers, and that each leaves a function no choice: two results that satisfy a promise are equal. The proof is
-- proofs/Promises.antt.
use Rattle.std.specs.Prelude.{◌≡◌}

-- the answer is a definition's
abbrev pub Answers : {A : Type 0} → A → A → Type 0
Answers answer r = r ≡ answer

-- and so is what a lent buffer holds in the end
pub record Leaves {A B : Type 0} (answer : A) (contents : B) (r : A) (left : B) : Type 0 where
  pub answers : r ≡ answer
  pub leaves : left ≡ contents

-- of two buffers
pub record LeavesBoth {A B C : Type 0} (answer : A) (first : B) (second : C) (r : A) (left : B) (also : C) : Type 0 where
  pub answers : r ≡ answer
  pub leaves_first : left ≡ first
  pub leaves_second : also ≡ second

-- one result alone satisfies each
abbrev pub OneAnswer : {A : Type 0} → A → Type 0
OneAnswer {A} answer = (r r' : A) → Answers answer r → Answers answer r' → r ≡ r'

abbrev pub OneResult : {A B : Type 0} → A → B → Type 0
OneResult {A} {B} answer contents =
    (r r' : A) (left left' : B) → Leaves answer contents r left → Leaves answer contents r' left' → (r ≡ r') × (left ≡ left')

abbrev pub OneOutcome : {A B C : Type 0} → A → B → C → Type 0
OneOutcome {A} {B} {C} answer first second =
    (r r' : A) (left left' : B) (also also' : C)
    → LeavesBoth answer first second r left also
    → LeavesBoth answer first second r' left' also'
    → (r ≡ r') × (left ≡ left') × (also ≡ also')

-- whatever the definitions are
pub record NoChoice : Type 1 where
  pub of_answer : {A : Type 0} (answer : A) → OneAnswer answer
  pub of_lent : {A B : Type 0} (answer : A) (contents : B) → OneResult answer contents
  pub of_two_lent : {A B C : Type 0} (answer : A) (first : B) (second : C) → OneOutcome answer first second
