-- Laws of the question on a name of the module in slot s, whose row begins at o. Assumes nothing.
use Prim.Native.Nat.{ℕ, ◌+◌, ◌*◌, ◌<◌, ◌≤◌}
use mathlib.Core.Path.{◌≡◌, refl, sym, ap, ◌∙◌}
use mathlib.Core.Bool.{Bool, true, false, cond}
use mathlib.Core.List.{List}
use lib.ListN.{length, get_or}
use Rattle.std.specs.Prelude.{Result, Ok, Err}
use Rattle.laws.specs.declared.refusals.Refusal.{Refusal}
use Rattle.laws.specs.Codes.{code_of, coded}
use Rattle.laws.specs.Limits.{AllBytes}
use Rattle.laws.specs.Refusals.{no_such_place, too_short}
use Rattle.places.specs.Places.{Row, has_name, row_of_name, name_length}
use Rattle.shape.specs.Layout.{place_at}
use Rattle.questions.specs.Question.{name_row, name_bytes, value, refusing}
use Rattle.questions.specs.Fills.{filled_to, value_at, heard_at, sum_to, numbers_fill, bytes_fill}
use Rattle.questions.specs.Replies.{reply_as}
use Rattle.questions.proofs.Filling.{fill-short, fill_done, row_numbers, row_bytes, row_heard}

-- what a place that was found, and one that was refused, say of the test for it
pub when_found : (t : Bool) (p m : ℕ) {o : ℕ} {r : Result ℕ Refusal} → coded r ≡ cond t (Ok p) (Err m) → r ≡ Ok o → (t ≡ true) × (o ≡ p)
when_found t p m {o} by is = go t (sym (ap coded is) ∙ by)
  where
    go : (u : Bool) → Ok o ≡ cond u (Ok p) (Err m) → (u ≡ true) × (o ≡ p)
    go true x = (refl, cc)
    go false x = cc

pub when_refused : (t : Bool) (p m : ℕ) {e : Refusal} {r : Result ℕ Refusal} → coded r ≡ cond t (Ok p) (Err m) → r ≡ Err e → (t ≡ false) × (code_of e ≡ m)
when_refused t p m {e} by is = go t (sym (ap coded is) ∙ by)
  where
    go : (u : Bool) → Err (code_of e) ≡ cond u (Ok p) (Err m) → (u ≡ false) × (code_of e ≡ m)
    go true x = cc
    go false x = (refl, cc)

module _ (b : List ℕ) (s kind n : ℕ) (out : List ℕ) where
  abbrev row : Row
  row = row_of_name kind n

  module _ (e : has_name kind n ≡ false) where
    pub no_row : {m : ℕ} → m ≡ no_such_place → refusing m out ≡ reply_as b s kind (name_row n) out
    unfolding reply_as
    no_row d = rw (e, d)

    pub no_bytes : {m : ℕ} → m ≡ no_such_place → refusing m out ≡ reply_as b s kind (name_bytes n) out
    unfolding reply_as
    no_bytes d = rw (e, d)

  module _ (e : has_name kind n ≡ true) where
    pub row-short : {m : ℕ} → m ≡ name_length → length out < m → refusing too_short out ≡ reply_as b s kind (name_row n) out
    unfolding reply_as numbers_fill
    row-short d h = rw e (fill-short _ _ name_length out d h)

    pub bytes_short : {m : ℕ} → m ≡ 2 * name_length → length out < m → refusing too_short out ≡ reply_as b s kind (name_bytes n) out
    unfolding reply_as bytes_fill
    bytes_short d h = rw e (fill-short _ _ (2 * name_length) out d h)

    module _ {o w : ℕ} (start : o ≡ place_at s row.start) (count : w ≡ sum_to (λ i. heard_at b (o + 2 * i)) name_length) {x : List ℕ} {m : ℕ} where
      pub row_done : m ≡ name_length → m ≤ length out → x ≡ filled_to (λ i. value_at b (o + 2 * i)) out m → value w x ≡ reply_as b s kind (name_row n) out
      unfolding reply_as numbers_fill
      row_done d h p = rw e (fill_done _ _ name_length out d h (row_heard b s row start count) (row_numbers b s row start out m p))

      pub bytes_done : m ≡ 2 * name_length → m ≤ length out → AllBytes b → x ≡ filled_to (λ j. get_or b (o + j) 0) out m → value w x ≡ reply_as b s kind (name_bytes n) out
      unfolding reply_as bytes_fill
      bytes_done d h bytes p = rw e (fill_done _ _ (2 * name_length) out d h (row_heard b s row start count) (row_bytes b s row start out m bytes p))
