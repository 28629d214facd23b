-- Laws of a reply that several proofs cite: refused before the question is looked at, and of the module in the slot that was found.
-- Assumes nothing.
use Prim.Native.Nat.{ℕ, ◌+◌, ◌*◌, ◌<◌}
use native.Mathlib.Omega.{arith}
use mathlib.Core.Path.{◌≡◌, refl, sym, ap, ◌∙◌}
use mathlib.Core.Bool.{Bool, true, false, ◌&&◌, cond}
use mathlib.Core.List.{List}
use lib.Dec.{eqb, ltb}
use borrow.Author.Tests.{eqb-true, eq-eqb}
use Rattle.std.specs.Prelude.{Result, Ok, Err, IsErrAnd}
use Rattle.laws.specs.declared.refusals.Refusal.{Refusal}
use Rattle.laws.specs.Codes.{code_of, coded}
use Rattle.laws.specs.Refusals.{type_not_known, too_short}
use Rattle.shape.specs.Limits.{room}
use Rattle.shape.specs.Head.{short, kind_in}
use Rattle.questions.specs.Question.{Question, Reply, refusing}
use Rattle.questions.specs.Replies.{slot_asked, module_asked, reply_as, reply_in, reply}

-- two bytes of which the first is below 256 are the number 256 exactly where they are 0 and 1
pub not_heard_lem : (x y : ℕ) → x < 256 → x + 256 * y ≡ 256 → (eqb x 0 && eqb y 1) ≡ true
not_heard_lem x y h e =
    let p : x ≡ 0 = omega arith in
    let q : y ≡ 1 = omega arith in
    rw (eq-eqb x 0 p, eq-eqb y 1 q)

pub heard : (x y : ℕ) → (x + 256 * y ≡ 256 → ⊥) → (eqb x 0 && eqb y 1) ≡ false
heard x y n = go (eqb x 0) (eqb y 1) (eqb-true x 0) (eqb-true y 1)
  where
    go : (a b : Bool) → (a ≡ true → x ≡ 0) → (b ≡ true → y ≡ 1) → (a && b) ≡ false
    go false b p q = refl
    go true false p q = refl
    go true true p q =
        let e = p refl in
        let f = q refl in
        absurd (n (omega arith))

-- what a function that fills has to show
pub both_of : {r t : Reply} → r ≡ t → (r.answer ≡ t.answer) × (r.buffer ≡ t.buffer)
both_of e = (ap (λ (x : Reply). x.answer) e, ap (λ (x : Reply). x.buffer) e)

-- what a `?` hands on
pub handed_on : {A : Type 0} {e : Refusal} (r : Result A Refusal) → IsErrAnd r (λ x. x ≡ e) → r ≡ Err e
handed_on (Ok a) h = absurd h
handed_on (Err x) h = ap Err h

-- the module asked is refused, or found in a slot: what then comes of a call on it
module _ (b : List ℕ) (a : ℕ) (says : ℕ → Reply) (out : List ℕ) {r : Result ℕ Refusal} (asked : coded r ≡ module_asked b a) where
  pub refused_call : {e : Refusal} → r ≡ Err e
      → refusing (code_of e) out ≡ cond (short b) (refusing too_short out) (cond (ltb (slot_asked b a) room) (says (slot_asked b a)) (refusing type_not_known out))
  unfolding module_asked
  refused_call {e} is = go (short b) (ltb (slot_asked b a) room) (sym (ap coded is) ∙ asked)
    where
      go : (s t : Bool) → Err (code_of e) ≡ cond s (Err too_short) (cond t (Ok (slot_asked b a)) (Err type_not_known))
          → refusing (code_of e) out ≡ cond s (refusing too_short out) (cond t (says (slot_asked b a)) (refusing type_not_known out))
      go true t x = cc
      go false true x = cc
      go false false x = cc

  pub found_call : {s : ℕ} → r ≡ Ok s
      → says s ≡ cond (short b) (refusing too_short out) (cond (ltb (slot_asked b a) room) (says (slot_asked b a)) (refusing type_not_known out))
  unfolding module_asked
  found_call {s} is = go (short b) (ltb (slot_asked b a) room) (sym (ap coded is) ∙ asked)
    where
      go : (t u : Bool) → Ok s ≡ cond t (Err too_short) (cond u (Ok (slot_asked b a)) (Err type_not_known))
          → says s ≡ cond t (refusing too_short out) (cond u (says (slot_asked b a)) (refusing type_not_known out))
      go true u x = cc
      go false true x = cc
      go false false x = cc

-- the call is a question
module _ (b : List ℕ) (a : ℕ) (q : Question) (out : List ℕ) {r : Result ℕ Refusal} (asked : coded r ≡ module_asked b a) where
  pub refused_before : {e : Refusal} → r ≡ Err e → refusing (code_of e) out ≡ reply b a q out
  unfolding reply reply_in
  refused_before is = refused_call b a (λ s. reply_as b s (kind_in b s) q out) out asked is

  pub found_replies : {s : ℕ} → r ≡ Ok s → reply_as b s (kind_in b s) q out ≡ reply b a q out
  unfolding reply reply_in
  found_replies is = found_call b a (λ s. reply_as b s (kind_in b s) q out) out asked is
