-- Laws of an order of refusals.
--     refused_or         tests that a definition numbers by `unless`, and what is tested after them
--     by_test, by-fault  one test before those that are known, where the call goes on if it holds, or if it does not
--     answered-then, refused-then  one order after another
-- Assumes nothing.
use Prim.Native.Nat.{ℕ, ◌≤◌}
use native.Mathlib.Omega.{arith}
use mathlib.Core.Path.{◌≡◌, refl, sym, ap, ◌∙◌}
use mathlib.Core.List.{List, [], ◌∷◌, ◌++◌}
use mathlib.Core.Bool.{Bool, true, false, not, ◌&&◌, cond}
use lib.Dec.{leb}
use borrow.Author.Tests.{leb-true, ne_eqb}
use Rattle.laws.specs.Tests.{unless, unless_refused}
use Rattle.laws.proofs.Testing.{and_both}
use Rattle.shape.specs.Result.{Result, refusing, done}
use Rattle.questions.specs.Question as question
use Rattle.questions.specs.Question.{Reply}
use Rattle.demands.specs.Order.{Test, ◌or◌, Verdict, answers, refuses, verdict}
use Rattle.demands.specs.Demand1.{verdict_of_outcome, verdict_of_answer, Decided, Call, Replied}

pub answers_refuses : {A : Type 0} {n : ℕ} → answers ≡ refuses n → A
answers_refuses e = absurd (let z : ◌≡◌ {A = ℕ} 0 1 = cc in omega arith)

-- ---- tests numbered by `unless`
abbrev pub unlesses : List Test → ℕ
unlesses [] = 0
unlesses (t ∷ ts) = unless t.passes t.number (unlesses ts)

-- no number is 0
abbrev pub numbered : List Test → Bool
numbered [] = true
numbered (t ∷ ts) = leb 1 t.number && numbered ts

module _ {A : Type 0} (of : A → Verdict) (refused : ℕ → A) (same : (n : ℕ) → of (refused n) ≡ refuses n) where
  pub refused_or : (ts us : List Test) → numbered ts ≡ true → (x : A) → of x ≡ verdict us → of (unless_refused refused (unlesses ts) x) ≡ verdict (ts ++ us)
  refused_or [] us h x e = e
  refused_or (t ∷ ts) us h x e =
      let g = and_both (leb 1 t.number) (numbered ts) h in
      go t.passes (leb-true 1 t.number g.0) (refused_or ts us g.1 x e)
    where
      go : (b : Bool) → 1 ≤ t.number → of (unless_refused refused (unlesses ts) x) ≡ verdict (ts ++ us)
          → of (unless_refused refused (unless b t.number (unlesses ts)) x) ≡ cond b (verdict (ts ++ us)) (refuses t.number)
      go true l rest = rest
      go false l rest = rw (ne_eqb t.number 0 (λ z. omega arith)) (same t.number)

-- ---- one test
module _ {B : Type 0} (says : Verdict → B) (before : List ℕ) (n : ℕ) (ts : List Test) (given : Bool → B) (after : Bool → List ℕ) where
  pub by_test : (t : Bool) → Decided says ts before (given true) (after true) → given false ≡ says (refuses n) → after false ≡ before
      → Decided says (t or n ∷ ts) before (given t) (after t)
  by_test true d e k = record { decides = d.decides; keeps = d.keeps }
  by_test false d e k = record { decides = e; keeps = λ _ _. k }

  pub by-fault : (t : Bool) → Decided says ts before (given false) (after false) → given true ≡ says (refuses n) → after true ≡ before
      → Decided says (not t or n ∷ ts) before (given t) (after t)
  by-fault true d e k = record { decides = e; keeps = λ _ _. k }
  by-fault false d e k = record { decides = d.decides; keeps = d.keeps }

-- where the call chooses between two outcomes, the second of them the refusal
module _ {A B : Type 0} (says : Verdict → B) (before : List ℕ) (given : A → B) (after : A → List ℕ) (n : ℕ) (ts : List Test) (x y : A) where
  choice_test : (t : Bool) → Decided says ts before (given x) (after x) → given y ≡ says (refuses n) → after y ≡ before
      → Decided says (t or n ∷ ts) before (given (cond t x y)) (after (cond t x y))
  choice_test t = by_test says before n ts (λ c. given (cond c x y)) (λ c. after (cond c x y)) t

  choice_fault : (t : Bool) → Decided says ts before (given x) (after x) → given y ≡ says (refuses n) → after y ≡ before
      → Decided says (not t or n ∷ ts) before (given (cond t y x)) (after (cond t y x))
  choice_fault t = by-fault says before n ts (λ c. given (cond c y x)) (λ c. after (cond c y x)) t

module _ (out : List ℕ) (n : ℕ) (ts : List Test) (r : Result) where
  pub call_test : (t : Bool) → Call ts out r → Call (t or n ∷ ts) out (cond t r (refusing n out))
  call_test t d = choice_test (λ v. v) out (λ (r : Result). verdict_of_outcome r.outcome) (λ (r : Result). r.buffer) n ts r (refusing n out) t d refl refl

  pub call_fault : (t : Bool) → Call ts out r → Call (not t or n ∷ ts) out (cond t (refusing n out) r)
  call_fault t d = choice_fault (λ v. v) out (λ (r : Result). verdict_of_outcome r.outcome) (λ (r : Result). r.buffer) n ts r (refusing n out) t d refl refl

pub call_done : (out x : List ℕ) → Call [] out (done x)
call_done out x = record { decides = refl; keeps = λ n e. answers_refuses e }

module _ (out : List ℕ) (n : ℕ) (ts : List Test) (r : Reply) where
  pub reply_test : (t : Bool) → Replied ts out r → Replied (t or n ∷ ts) out (cond t r (question.refusing n out))
  reply_test t d = choice_test (λ v. v) out (λ (r : Reply). verdict_of_answer r.answer) (λ (r : Reply). r.buffer) n ts r (question.refusing n out) t d refl refl

  pub reply-fault : (t : Bool) → Replied ts out r → Replied (not t or n ∷ ts) out (cond t (question.refusing n out) r)
  reply-fault t d = choice_fault (λ v. v) out (λ (r : Reply). verdict_of_answer r.answer) (λ (r : Reply). r.buffer) n ts r (question.refusing n out) t d refl refl

pub reply-done : (out : List ℕ) (v : ℕ) (x : List ℕ) → Replied [] out (question.value v x)
reply-done out v x = record { decides = refl; keeps = λ n e. answers_refuses e }

-- and of an answer that comes with no buffer
module _ {A : Type 0} (of : A → Verdict) (n : ℕ) (ts : List Test) (x y : A) (goes_on : of x ≡ verdict ts) (refused : of y ≡ refuses n) where
  pub answer_test : (t : Bool) → of (cond t x y) ≡ verdict (t or n ∷ ts)
  answer_test true = goes_on
  answer_test false = refused

  pub answer-fault : (t : Bool) → of (cond t y x) ≡ verdict (not t or n ∷ ts)
  answer-fault true = refused
  answer-fault false = goes_on

-- ---- one of two orders
pub either_order : {A : Type 0} (of : A → Verdict) (x y : A) (ts us : List Test) → of x ≡ verdict ts → of y ≡ verdict us
    → (c : Bool) → of (cond c x y) ≡ verdict (cond c ts us)
either_order of x y ts us e f true = e
either_order of x y ts us e f false = f

-- ---- one order after another
abbrev then : Verdict → Verdict → Verdict
then answers v = v
then (refuses n) v = refuses n

then_is : (ts us : List Test) → verdict (ts ++ us) ≡ then (verdict ts) (verdict us)
then_is [] us = refl
then_is (t ∷ ts) us = go t.passes (then_is ts us)
  where
    go : (b : Bool) → verdict (ts ++ us) ≡ then (verdict ts) (verdict us)
        → cond b (verdict (ts ++ us)) (refuses t.number) ≡ then (cond b (verdict ts) (refuses t.number)) (verdict us)
    go true e = e
    go false e = refl

module _ {B : Type 0} (says : Verdict → B) (before : List ℕ) (ts us : List Test) (given : B) (after : List ℕ) where
  pub answered-then : answers ≡ verdict ts → Decided says us before given after → Decided says (ts ++ us) before given after
  answered-then e d =
      let q : verdict (ts ++ us) ≡ verdict us = then_is ts us ∙ ap (λ (v : Verdict). then v (verdict us)) (sym e) in
      record { decides = d.decides ∙ ap says (sym q); keeps = λ n r. d.keeps n (sym q ∙ r) }

  pub refused-then : (n : ℕ) → refuses n ≡ verdict ts → given ≡ says (refuses n) → after ≡ before → Decided says (ts ++ us) before given after
  refused-then n e g k =
      let q : verdict (ts ++ us) ≡ refuses n = then_is ts us ∙ ap (λ (v : Verdict). then v (verdict us)) (sym e) in
      record { decides = g ∙ ap says (sym q); keeps = λ _ _. k }
