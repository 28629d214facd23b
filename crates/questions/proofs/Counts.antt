-- The count that the question on a name gives is that of the row which it filled, as specs/Statements.antt states it. Assumes nothing.
use Prim.Native.Nat.{ℕ, ◌+◌}
use native.Mathlib.Omega.{arith}
use mathlib.Core.Path.{◌≡◌, refl, sym, ap, ◌∙◌}
use mathlib.Core.Bool.{Bool, true, false, cond}
use mathlib.Core.List.{List}
use lib.Dec.{eqb, ltb, leb}
use lib.ListN.{length, get_or}
use borrow.Author.Tests.{eqb-true, eqb-false, lt-ltb, le-ltb, leb-true}
use Rattle.laws.specs.Limits.{AllBytes}
use Rattle.laws.specs.Refusals.{type_not_known, no_such_place, too_short}
use Rattle.std.specs.Prelude.{Some, None, Ok, Err}
use Rattle.shape.specs.Answers.{Answer}
use Rattle.shape.specs.Limits.{room}
use Rattle.places.specs.Places.{Row, has_name, row_of_name, name_length}
use Rattle.shape.specs.Layout.{place_at}
use Rattle.shape.specs.Head.{short, kind_in}
use Rattle.questions.specs.Question.{Reply, name_row, value, refusing}
use Rattle.questions.specs.Fills.{filled_to, filling, value_at, heard_at, row_number, numbers_fill, heard_in}
use Rattle.questions.specs.Replies.{slot_asked, reply_as, reply_in, reply}
use Rattle.questions.specs.Statements.{heard_of, CountIsOfRow}
use Rattle.questions.proofs.Filling.{filled_at, sum_ext}

-- what a number says of a character
heard_of_lem : (b : List ℕ) (o : ℕ) → AllBytes b → heard_at b o ≡ cond (ltb (value_at b o) 256) 1 0
heard_of_lem b o bytes = go (eqb (get_or b (o + 1) 0) 0) refl
  where
    go : (t : Bool) → eqb (get_or b (o + 1) 0) 0 ≡ t → ◌≡◌ {A = ℕ} (cond t 1 0) (cond (ltb (value_at b o) 256) 1 0)
    go true e = rw (lt-ltb (value_at b o) 256 (omega (arith, bytes o, eqb-true (get_or b (o + 1) 0) 0 e)))
    go false e = rw (le-ltb (value_at b o) 256 (omega (arith, eqb-false (get_or b (o + 1) 0) 0 e)))

-- a reply whose count, where it gives one, is that of its row
abbrev Counts : Reply → Type 0
Counts r = (count : ℕ) → r.answer ≡ Ok (Some count) → count ≡ heard_of r.buffer

abbrev value_in : Answer → ℕ
value_in (Ok (Some v)) = v
value_in (Ok None) = 0
value_in (Err n) = 0

abbrev is_value : Answer → ℕ
is_value (Ok (Some v)) = 1
is_value (Ok None) = 0
is_value (Err n) = 0

refused_counts : (n : ℕ) (out : List ℕ) → Counts (refusing n out)
refused_counts n out count e = absurd (let z : ◌≡◌ {A = ℕ} 0 1 = ap is_value e in omega arith)

module _ (b : List ℕ) (bytes : AllBytes b) (s kind n : ℕ) (out : List ℕ) where
  abbrev row : Row
  row = row_of_name kind n

  fill_counts : Counts (numbers_fill (heard_in b s row) b s row out)
  unfolding numbers_fill filling
  fill_counts = go (leb name_length (length out)) refl
    where
      go : (t : Bool) → leb name_length (length out) ≡ t
          → Counts (cond t (value (heard_in b s row) (filled_to (row_number b s row) out name_length)) (refusing too_short out))
      go true l = λ count e.
          sym (ap value_in e)
          ∙ sum_ext (λ i. heard_at b (place_at s (row.start + i))) (λ i. cond (ltb (get_or (filled_to (row_number b s row) out name_length) i 0) 256) 1 0) name_length
          (λ i h. heard_of_lem b (place_at s (row.start + i)) bytes ∙ ap (λ (x : ℕ). cond (ltb x 256) 1 0) (sym (filled_at (row_number b s row) out name_length i (leb-true name_length (length out) l) h)))
      go false l = refused_counts too_short out

  name_counts : Counts (reply_as b s kind (name_row n) out)
  unfolding reply_as
  name_counts = go (has_name kind n)
    where
      go : (t : Bool) → Counts (cond t (numbers_fill (heard_in b s row) b s row out) (refusing no_such_place out))
      go true = fill_counts
      go false = refused_counts no_such_place out

pub count_is_of_row : CountIsOfRow
unfolding reply reply_in
count_is_of_row b bytes a n out = go (short b) (ltb S room)
  where
    S : ℕ
    S = slot_asked b a

    go : (s t : Bool) → Counts (cond s (refusing too_short out) (cond t (reply_as b S (kind_in b S) (name_row n) out) (refusing type_not_known out)))
    go true t = refused_counts too_short out
    go false true = name_counts b bytes S (kind_in b S) n out
    go false false = refused_counts type_not_known out
