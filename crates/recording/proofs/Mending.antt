-- What is cut off can be mended: with enough bytes of 1 after it, it is a whole record.
--     cut_can_be_mended
-- Assumes nothing.
use mathlib.Core.Path.{◌≡◌, refl, sym, ap, subst, ◌∙◌}
use mathlib.Core.List.{List, ◌++◌}
use mathlib.Core.Bool.{Bool, true, false, cond}
use mathlib.Core.Logic.{⊎_elim}
use Prim.Native.Nat.{ℕ, zero, suc, ◌+◌, ◌-◌, ◌/◌, ◌%◌, ◌≤◌, ◌<◌}
use native.Mathlib.Omega.{arith}
use lib.ListN.{length, drop, get_or, replicate, length-append, length-drop, get_or-replicate}
use lib.Seq.{drop-append-le, get_or-append-add}
use lib.Dec.{ltb}
use borrow.Author.Tests.{lt-ltb, le-leb, ltb-true}
use Rattle.laws.specs.Limits.{AllBytes}
use Rattle.laws.proofs.Testing.{not_both}
use Rattle.std.specs.Prelude.{Ok, Err}
use Rattle.groups.specs.declared.scan.NumberFault.TheVariants.{Ends, Bad}
use Rattle.recording.specs.Limits.{most_gap, most_word, most_count, longest}
use Rattle.groups.specs.Number.{Found, groups_of, read_number, number_at}
use Rattle.recording.specs.Record.{Entry, End, after, read_data, read_count, read_word, read_within, read_record, cut_off_at}
use Rattle.recording.specs.Window.{settled, is_record}
use Rattle.recording.specs.Statements.{CutCanBeMended}
use Rattle.groups.proofs.Reading.{different, number_last, value_at_lem}
use Rattle.numbers.proofs.Parts.{number_stays, Ended, number_mends}
use Rattle.recording.proofs.Ranges.{gap_groups_lem, word_groups_lem, count_groups_lem}
use Rattle.recording.proofs.Entries.{faults_are_placed}

module _ (s : List ℕ) where
  abbrev ones : List ℕ
  ones = replicate longest 1

  abbrev w : List ℕ
  w = s ++ ones

  long : length w ≡ length s + longest
  long = length-append s ones

  one_byte : (i : ℕ) → length s ≤ i → i < length s + longest → 1 ≡ get_or w i 0
  one_byte i h l =
      let k : ℕ = i - length s in
      let on : i ≡ length s + k = omega arith in
      sym (ap (λ (n : ℕ). get_or w n 0) on ∙ get_or-append-add s ones k 0 ∙ get_or-replicate longest k 1 0 (omega arith))

  -- after s every number is 1
  one_at : (most i : ℕ) → 0 < groups_of most → 0 < most → length s ≤ i → i < length s + longest → number_at w i most ≡ Ok (1, 1)
  one_at most i some large h l = sym (number_last (groups_of most) most i w 1 (omega (arith, long)) (λ e. omega arith) (one_byte i h l) large (omega arith))

  data_whole : (gap identifier remote count start : ℕ) → start + count ≤ length s + longest → is_record (read_data w gap identifier remote count start) ≡ true
  data_whole gap identifier remote count start h = rw (le-leb count (length w - start) (omega (arith, long)))

  count_whole : (gap identifier remote i : ℕ) → length s ≤ i → i + 2 ≤ length s + longest → is_record (read_count w gap identifier remote i) ≡ true
  count_whole gap identifier remote i h l =
      ap (λ (n : Found). is_record (after w i n (read_data w gap identifier remote))) (one_at most_count i (omega (arith, count_groups_lem)) (omega arith) h (omega arith))
      ∙ data_whole gap identifier remote 1 (i + 1) (omega arith)

  word_whole : (gap i : ℕ) → length s ≤ i → i + 3 ≤ length s + longest → is_record (read_word w gap i) ≡ true
  word_whole gap i h l =
      ap (λ (n : Found). is_record (after w i n (λ word next. read_count w gap (word / 2) (word % 2) next))) (one_at most_word i (omega (arith, word_groups_lem)) (omega arith) h (omega arith))
      ∙ count_whole gap 0 1 (i + 1) (omega arith) (omega arith)

  -- what follows a number: where s cuts the number off, and where it cuts off what follows its value
  after_mends : (most at : ℕ) (rest rest' : ℕ → ℕ → Entry) → 0 < groups_of most → 0 < most → at ≤ length s
      → ((v : ℕ) → v ≤ most → is_record (rest' v (length s + 1)) ≡ true)
      → ((v next : ℕ) → v ≤ most → next ≤ length s → settled (rest v next) ≡ false → is_record (rest' v next) ≡ true)
      → settled (after s at (number_at s at most) rest) ≡ false → is_record (after w at (number_at w at most) rest') ≡ true
  after_mends most at rest rest' some large inside ended follows = go (number_at s at most) refl
    where
      mended : (n : ℕ) → at + n ≡ length s + 1 → (r : Found) → r ≡ number_at w at most → Ended n r → is_record (after w at r rest') ≡ true
      mended n past (Err Ends) e h = absurd h
      mended n past (Err (Bad p)) e h = absurd h
      mended n past (Ok (v, groups)) e h =
          let on : at + groups ≡ length s + 1 = omega (arith, h.1) in
          ap (λ (n : ℕ). is_record (rest' v n)) on ∙ ended v (value_at_lem (groups_of most) most at w (Ok (v, groups)) v groups e refl).small

      go : (r : Found) → number_at s at most ≡ r → settled (after s at r rest) ≡ false → is_record (after w at (number_at w at most) rest') ≡ true
      go (Err Ends) e z =
          mended (suc (length (drop at s))) (omega (arith, length-drop at s)) (number_at w at most) refl
          (subst (λ (bs : List ℕ). Ended (suc (length (drop at s))) (read_number (groups_of most) most at bs)) (sym (drop-append-le at s ones inside))
          (number_mends (groups_of most) most at (drop at s) (replicate 15 1) some large e))
      go (Err (Bad p)) e z = not_both (sym z)
      go (Ok (v, groups)) e z =
          let fits = value_at_lem (groups_of most) most at s (Ok (v, groups)) v groups (sym e) refl in
          ap (λ (n : Found). is_record (after w at n rest')) (number_stays s ones (groups_of most) most at (Ok (v, groups)) inside e (λ no. different cc)) ∙ follows v (at + groups) fits.small fits.inside z

  mends : (at : ℕ) (b : Bool) → ltb at (length s) ≡ b → (n : ℕ) → cond b (after s at (number_at s at most_gap) (read_word s)) End ≡ cut_off_at n → is_record (read_record w at) ≡ true
  unfolding read_within
  mends at false e n q = absurd (different cc)
  mends at true e n q =
      let h : at < length s = ltb-true _ _ e in
      rw (lt-ltb at (length w) (omega (arith, long)))
      (after_mends most_gap at (read_word s) (read_word w) (omega (arith, gap_groups_lem)) (omega arith) (omega arith)
      (λ gap _. word_whole gap (length s + 1) (omega arith) (omega arith))
      (λ gap p₁ _ h₁. after_mends most_word p₁ (λ word next. read_count s gap (word / 2) (word % 2) next) (λ word next. read_count w gap (word / 2) (word % 2) next) (omega (arith, word_groups_lem)) (omega arith) h₁
      (λ word _. count_whole gap (word / 2) (word % 2) (length s + 1) (omega arith) (omega arith))
      (λ word p₂ _ h₂. after_mends most_count p₂ (read_data s gap (word / 2) (word % 2)) (read_data w gap (word / 2) (word % 2)) (omega (arith, count_groups_lem)) (omega arith) h₂
      (λ count few. data_whole gap (word / 2) (word % 2) count (length s + 1) (omega arith))
      (λ count start few h₃ _. data_whole gap (word / 2) (word % 2) count start (omega arith))))
      (ap settled q))

  mended : (at n : ℕ) → read_record s at ≡ cut_off_at n → is_record (read_record w at) ≡ true
  unfolding read_within
  mended at n e = mends at (ltb at (length s)) refl n e

all_ones : (n : ℕ) → AllBytes (replicate n 1)
all_ones zero i = omega arith
all_ones (suc n) zero = omega arith
all_ones (suc n) (suc i) = all_ones n i

pub cut_can_be_mended : CutCanBeMended
cut_can_be_mended s at n e = (
  ⊎_elim (λ cut. cut.1) (λ bad. absurd (different (omega (arith, bad.0)))) (faults_are_placed s at 15 n e),
  (ones s, all_ones longest, mended s at n e),
)
