-- Names and the memory as bytes are the rows of numbers, as specs/Statements.antt states it. Assumes nothing.
use Prim.Native.Nat.{ℕ, zero, suc, ◌*◌, ◌/◌, ◌%◌}
use native.Mathlib.Omega.{arith}
use mathlib.Core.Path.{◌≡◌, refl, ap}
use mathlib.Core.Bool.{Bool, true, false, cond}
use mathlib.Core.List.{List, [], ◌∷◌}
use lib.Dec.{ltb, leb}
use lib.ListN.{length, set}
use borrow.Author.Tests.{leb-true, leb-false, le-leb, lt-leb}
use Rattle.laws.specs.Refusals.{type_not_known, no_such_place, too_short}
use Rattle.shape.specs.Limits.{room}
use Rattle.places.specs.Places.{Row, has_name, row_of_name, cell_row}
use Rattle.shape.specs.Head.{short, kind_in}
use Rattle.questions.specs.Question.{Question, name_row, name_bytes, memory_row, memory_bytes, value, refusing}
use Rattle.questions.specs.Fills.{filled_to, filling, row_number, low_first, numbers_fill, bytes_fill, heard_in}
use Rattle.questions.specs.Replies.{slot_asked, reply_as, reply_in, reply}
use Rattle.questions.specs.Statements.{in_bytes, reply_in_bytes, SameInBytes, RowsAreBytes}

twice : (n : ℕ) → 2 * suc n ≡ suc (suc (2 * n))
twice n = omega arith

pub length_bytes : (row : List ℕ) → length (in_bytes row) ≡ 2 * length row
unfolding in_bytes
length_bytes [] = refl
length_bytes (n ∷ row) = omega (arith, length_bytes row)

-- a number stored in a row is its two bytes stored
set_bytes : (row : List ℕ) (n v : ℕ) → set (set (in_bytes row) (2 * n) (v % 256)) (suc (2 * n)) (v / 256) ≡ in_bytes (set row n v)
unfolding in_bytes
set_bytes [] n v = refl
set_bytes (x ∷ row) zero v = refl
set_bytes (x ∷ row) (suc n) v = rw (twice n) (ap (λ (r : List ℕ). x % 256 ∷ x / 256 ∷ r) (set_bytes row n v))

low_byte : (f : ℕ → ℕ) (n : ℕ) → low_first f (2 * n) ≡ f n % 256
low_byte f n =
    let p : 2 * n % 2 ≡ 0 = omega arith in
    let q : 2 * n / 2 ≡ n = omega arith in
    rw (p, q)

high_byte : (f : ℕ → ℕ) (n : ℕ) → low_first f (suc (2 * n)) ≡ f n / 256
high_byte f n =
    let p : suc (2 * n) % 2 ≡ 1 = omega arith in
    let q : suc (2 * n) / 2 ≡ n = omega arith in
    rw (p, q)

filled_bytes : (f : ℕ → ℕ) (row : List ℕ) (n : ℕ) → filled_to (low_first f) (in_bytes row) (2 * n) ≡ in_bytes (filled_to f row n)
unfolding filled_to
filled_bytes f row zero = refl
filled_bytes f row (suc n) = rw (twice n, filled_bytes f row n, low_byte f n, high_byte f n) (set_bytes (filled_to f row n) n (f n))

-- there is room for the bytes exactly where there is for the numbers
pub room_bytes : (n : ℕ) (row : List ℕ) → leb (2 * n) (length (in_bytes row)) ≡ leb n (length row)
room_bytes n row = rw (length_bytes row) (go (leb n (length row)) refl)
  where
    go : (t : Bool) → leb n (length row) ≡ t → leb (2 * n) (2 * length row) ≡ t
    go true e = le-leb (2 * n) (2 * length row) (omega (arith, leb-true n (length row) e))
    go false e = lt-leb (2 * n) (2 * length row) (omega (arith, leb-false n (length row) e))

fill_bytes_lem : (v : ℕ) (f : ℕ → ℕ) (n : ℕ) (row : List ℕ) → filling v (low_first f) (2 * n) (in_bytes row) ≡ reply_in_bytes (filling v f n row)
unfolding filling
fill_bytes_lem v f n row = rw (room_bytes n row, filled_bytes f row n) (go (leb n (length row)))
  where
    go :
        (t : Bool) →
        cond t (value v (in_bytes (filled_to f row n))) (refusing too_short (in_bytes row)) ≡ reply_in_bytes (cond t (value v (filled_to f row n)) (refusing too_short row))
    go true = refl
    go false = refl

-- any row of places
row_bytes : (v : ℕ) (b : List ℕ) (s : ℕ) (places : Row) (row : List ℕ) → bytes_fill v b s places (in_bytes row) ≡ reply_in_bytes (numbers_fill v b s places row)
unfolding numbers_fill bytes_fill
row_bytes v b s places row = fill_bytes_lem v (row_number b s places) places.count row

-- a question whose reply is alike for the module in each slot
by-slot :
    (numbers bytes : Question) →
    ((b : List ℕ) (s : ℕ) (row : List ℕ) → reply_as b s (kind_in b s) bytes (in_bytes row) ≡ reply_in_bytes (reply_as b s (kind_in b s) numbers row)) →
    SameInBytes numbers bytes
unfolding reply reply_in
by-slot numbers bytes same b a row = go (short b) (ltb S room)
  where
    S : ℕ
    S = slot_asked b a

    go :
        (s t : Bool) →
        cond s (refusing too_short (in_bytes row)) (cond t (reply_as b S (kind_in b S) bytes (in_bytes row)) (refusing type_not_known (in_bytes row)))
        ≡ reply_in_bytes (cond s (refusing too_short row) (cond t (reply_as b S (kind_in b S) numbers row) (refusing type_not_known row)))
    go true t = refl
    go false true = same b S row
    go false false = refl

name-same : (n : ℕ) (b : List ℕ) (s kind : ℕ) (row : List ℕ) → reply_as b s kind (name_bytes n) (in_bytes row) ≡ reply_in_bytes (reply_as b s kind (name_row n) row)
unfolding reply_as
name-same n b s kind row = go (has_name kind n)
  where
    count : ℕ
    count = heard_in b s (row_of_name kind n)

    go :
        (t : Bool) →
        cond t (bytes_fill count b s (row_of_name kind n) (in_bytes row)) (refusing no_such_place (in_bytes row))
        ≡ reply_in_bytes (cond t (numbers_fill count b s (row_of_name kind n) row) (refusing no_such_place row))
    go true = row_bytes count b s (row_of_name kind n) row
    go false = refl

memory-same : (b : List ℕ) (s kind : ℕ) (row : List ℕ) → reply_as b s kind memory_bytes (in_bytes row) ≡ reply_in_bytes (reply_as b s kind memory_row row)
unfolding reply_as
memory-same b s kind row = row_bytes 0 b s (cell_row kind) row

pub rows_are_bytes : RowsAreBytes
rows_are_bytes =
    record {
      names = λ n. by-slot (name_row n) (name_bytes n) (λ b s row. name-same n b s (kind_in b s) row);
      memory = by-slot memory_row memory_bytes (λ b s row. memory-same b s (kind_in b s) row);
    }
