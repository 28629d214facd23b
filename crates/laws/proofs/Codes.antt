-- What the code of a refusal tells.
--     some_code          every refusal has a number
--     failed, passed     the first of several tests, by its own outcome
--     same_pair          two answers of two parts that are equal
-- Assumes nothing.
use Rattle.std.proofs.Common.{◌≡◌, ℕ, Bool, true, false, Result, Ok, Err, refl, sym, ap, arith}
use Rattle.laws.specs.Tests.{unless}
use Rattle.laws.specs.Codes.{code_of}
use Rattle.laws.specs.declared.refusals.Refusal.{Refusal}
use Rattle.laws.specs.declared.refusals.Refusal.TheVariants.{BadIdentifier, BadForm, BadPriority, BadType, TypeNotKnown, NotListed, WrongLength, WrongPriority, BadField, NoRoom, NothingKept, NoSuchPlace, TooShort, CutOff, BadNumber, Sid0Set}

pub some_code : (e : Refusal) → code_of e ≡ 0 → ⊥
some_code BadIdentifier h = omega arith
some_code BadForm h = omega arith
some_code BadPriority h = omega arith
some_code BadType h = omega arith
some_code TypeNotKnown h = omega arith
some_code NotListed h = omega arith
some_code WrongLength h = omega arith
some_code WrongPriority h = omega arith
some_code (BadField byte) h = omega arith
some_code NoRoom h = omega arith
some_code NothingKept h = omega arith
some_code NoSuchPlace h = omega arith
some_code TooShort h = omega arith
some_code CutOff h = omega arith
some_code BadNumber h = omega arith
some_code Sid0Set h = omega arith

pub failed : (t : Bool) (n later : ℕ) {k : ℕ} → k ≡ unless t n 0 → (k ≡ 0 → ⊥) → unless t n later ≡ k
failed true n later h some = absurd (some h)
failed false n later h some = sym h

pub passed : (t : Bool) (n later : ℕ) → 0 ≡ unless t n 0 → (n ≡ 0 → ⊥) → unless t n later ≡ later
passed true n later h some = refl
passed false n later h some = absurd (some (sym h))

pub same_pair : {A B E : Type 0} (x a : A) (y b : B) → ◌≡◌ {A = Result (A × B) E} (Ok (x, y)) (Ok (a, b)) → (x ≡ a) × (y ≡ b)
same_pair {A} {B} {E} x a y b e = (ap (λ (r : Result (A × B) E). (given r).0) e, ap (λ (r : Result (A × B) E). (given r).1) e)
  where
    given : Result (A × B) E → A × B
    given (Ok p) = p
    given (Err n) = (x, y)
