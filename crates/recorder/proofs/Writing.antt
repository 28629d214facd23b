-- Laws of writing.
--     record-length                              how many bytes a record has
--     Headed, head-put                           what writing the first two numbers leaves
--     sets_record                                a run of stores in the parts that a record has
--     put_out_of_range, put_no_room, put-done    what writing gives, case by case
-- Assumes nothing.
use mathlib.Core.Path.{◌≡◌, refl, sym, ap, ◌∙◌}
use mathlib.Core.List.{List, ◌∷◌, ◌++◌}
use mathlib.Core.Bool.{true, false}
use Prim.Native.Nat.{ℕ, suc, ◌+◌, ◌*◌, ◌≤◌, ◌<◌}
use native.Mathlib.Numerals.{add-one}
use native.Mathlib.Omega.{arith}
use lib.ListN.{length, set, length-append}
use lib.Seq.{sets}
use borrow.Author.Tests.{le-leb, lt-leb}
use Rattle.laws.proofs.Stores.{sets_append}
use Rattle.std.specs.Prelude.{Result, Ok, Err}
use Rattle.laws.specs.Refusals.{too_short, bad_number}
use Rattle.groups.specs.Number.{bytes_of, groups_of}
use Rattle.groups.specs.Write.{put_groups, put_into}
use Rattle.groups.proofs.Writing.{put-fits}
use Rattle.recording.specs.Limits.{in_range}
use Rattle.recorder.specs.Write.{record_bytes, put_answer, put_bytes, placed}

pub record-length : (gap identifier remote : ℕ) (ds : List ℕ)
    → length (record_bytes gap identifier remote ds) ≡ length (bytes_of gap) + (length (bytes_of (2 * identifier + remote)) + suc (length ds))
unfolding record_bytes
record-length gap identifier remote ds =
    length-append (bytes_of gap) (bytes_of (2 * identifier + remote) ++ (length ds ∷ ds))
    ∙ ap (λ (n : ℕ). length (bytes_of gap) + n) (length-append (bytes_of (2 * identifier + remote)) (length ds ∷ ds))

-- what writing the first two numbers leaves, where the record has room: the counts of their groups a and n, the buffers o₁ and o₂
pub record Headed (out : List ℕ) (gap identifier remote count a n : ℕ) (o₁ o₂ : List ℕ) : Type 0 where
  pub first : a ≡ groups_of gap
  pub second : n ≡ groups_of (2 * identifier + remote)
  pub one : o₁ ≡ sets out 0 (bytes_of gap)
  pub two : o₂ ≡ sets o₁ a (bytes_of (2 * identifier + remote))
  pub same : length o₂ ≡ length out
  pub room : a + n + suc count ≤ length out

pub head-put : (out ds : List ℕ) (gap identifier remote a n : ℕ) (o₁ o₂ : List ℕ) → length (record_bytes gap identifier remote ds) ≤ length out
    → a ≡ put_groups out 0 gap → o₁ ≡ put_into out 0 gap → length o₁ ≡ length out
    → n ≡ put_groups o₁ a (2 * identifier + remote) → o₂ ≡ put_into o₁ a (2 * identifier + remote) → length o₂ ≡ length o₁
    → Headed out gap identifier remote (length ds) a n o₁ o₂
head-put out ds gap identifier remote a n o₁ o₂ fits ea e₁ l₁ en e₂ l₂ =
    let long = record-length gap identifier remote ds in
    let p = put-fits out 0 gap (omega arith) in
    let first : a ≡ groups_of gap = ea ∙ p.0 in
    let q = put-fits o₁ a (2 * identifier + remote) (omega arith) in
    record { first = first; second = en ∙ q.0; one = e₁ ∙ p.1; two = e₂ ∙ q.1; same = l₂ ∙ l₁; room = omega (arith, en ∙ q.0) }

-- the answers a and n of the first two writes are how many bytes they wrote
pub sets_record : (out ds : List ℕ) (gap identifier remote a n : ℕ) (o₁ o₂ o₃ : List ℕ)
    → a ≡ groups_of gap → n ≡ groups_of (2 * identifier + remote)
    → o₁ ≡ sets out 0 (bytes_of gap) → o₂ ≡ sets o₁ a (bytes_of (2 * identifier + remote))
    → o₃ ≡ sets (set o₂ (a + n) (length ds)) (a + n + 1) ds → o₃ ≡ sets out 0 (record_bytes gap identifier remote ds)
unfolding record_bytes
sets_record out ds gap identifier remote a n o₁ o₂ o₃ ea en e₁ e₂ e₃ =
    let G : List ℕ = bytes_of gap in
    let W : List ℕ = bytes_of (2 * identifier + remote) in
    let D : List ℕ = length ds ∷ ds in
    let start : a ≡ 0 + length G = omega arith in
    let past : a + n ≡ a + length W = omega arith in
    e₃ ∙ ap (λ (k : ℕ). sets (set o₂ (a + n) (length ds)) k ds) (add-one (a + n))
    ∙ sym (sets_append G (W ++ D) out 0 ∙ (λ i. sets (sym e₁ i) (sym start i) (W ++ D)) ∙ sets_append W D o₁ a ∙ (λ i. sets (sym e₂ i) (sym past i) D))

module _ (b : List ℕ) (at gap identifier remote : ℕ) (ds : List ℕ) where
  abbrev Given : Result ℕ ℕ → List ℕ → Type 0
  Given answer bytes = (answer ≡ put_answer b at gap identifier remote ds) × (bytes ≡ put_bytes b at gap identifier remote ds)

  pub put_out_of_range : in_range gap identifier remote (length ds) ≡ false → Given (Err bad_number) b
  unfolding put_answer put_bytes
  put_out_of_range e = rw e (refl, refl)

  pub put_no_room : in_range gap identifier remote (length ds) ≡ true → length b < at + length (record_bytes gap identifier remote ds) → Given (Err too_short) b
  unfolding put_answer put_bytes
  put_no_room e h = rw (e, lt-leb (at + length (record_bytes gap identifier remote ds)) (length b) h) (refl, refl)

  pub put-done : in_range gap identifier remote (length ds) ≡ true → at + length (record_bytes gap identifier remote ds) ≤ length b
      → Given (Ok (length (record_bytes gap identifier remote ds))) (placed b at (record_bytes gap identifier remote ds))
  unfolding put_answer put_bytes
  put-done e h = rw (e, le-leb (at + length (record_bytes gap identifier remote ds)) (length b) h) (refl, refl)
