-- Reading through a window.
--     window_settles    what is settled in a first part of the input stands in the whole
--     window_moves      what is found in a part that begins further on is found there in the whole
-- Assumes nothing.
use mathlib.Core.Path.{◌≡◌, refl, sym, ap, ◌∙◌}
use mathlib.Core.List.{List, ◌++◌}
use mathlib.Core.Bool.{Bool, true, false, cond}
use Prim.Native.Nat.{ℕ, ◌+◌, ◌-◌, ◌/◌, ◌%◌, ◌≤◌, ◌<◌}
use native.Mathlib.Omega.{arith}
use lib.ListN.{length, drop, length-append}
use lib.Seq.{drop-append-add}
use lib.Dec.{ltb, leb}
use borrow.Author.Tests.{lt-ltb, le-leb, ltb-true, leb-true}
use Rattle.laws.proofs.Choices.{same_test}
use Rattle.std.specs.Prelude.{Ok, Err}
use Rattle.groups.specs.declared.scan.NumberFault.TheVariants.{Ends, Bad}
use Rattle.recording.specs.Limits.{most_gap, most_word, most_count}
use Rattle.groups.specs.Number.{Found, groups_of, read_number, number_at}
use Rattle.recording.specs.Record.{Entry, recorded, End, after, read_data, read_count, read_word, read_within, read_record, cut_off_at}
use Rattle.recording.specs.Window.{settled, further}
use Rattle.recording.specs.Statements.{WindowSettles, WindowMoves}
use Rattle.groups.proofs.Reading.{different, value_at_lem}
use Rattle.numbers.proofs.Parts.{number_stays, moved, cond_moves, number_moves}

module _ (s t : List ℕ) where
  -- what follows a number, where what follows its value is settled in the window too
  after_settles : (most at : ℕ) (rest rest' : ℕ → ℕ → Entry) → at ≤ length s
      → ((v next : ℕ) → next ≤ length s → settled (rest v next) ≡ true → rest' v next ≡ rest v next)
      → settled (after s at (number_at s at most) rest) ≡ true → after (s ++ t) at (number_at (s ++ t) at most) rest' ≡ after s at (number_at s at most) rest
  after_settles most at rest rest' inside f = go (number_at s at most) refl
    where
      stays : (r : Found) → number_at s at most ≡ r → (r ≡ Err Ends → ⊥) → number_at (s ++ t) at most ≡ r
      stays r = number_stays s t (groups_of most) most at r inside

      go : (r : Found) → number_at s at most ≡ r → settled (after s at r rest) ≡ true → after (s ++ t) at (number_at (s ++ t) at most) rest' ≡ after s at r rest
      go (Err Ends) e z = absurd (different cc)
      go (Err (Bad p)) e z = ap (λ (n : Found). after (s ++ t) at n rest') (stays (Err (Bad p)) e (λ no. different cc))
      go (Ok (v, groups)) e z =
          ap (λ (n : Found). after (s ++ t) at n rest') (stays (Ok (v, groups)) e (λ no. different cc))
          ∙ f v (at + groups) (value_at_lem (groups_of most) most at s (Ok (v, groups)) v groups (sym e) refl).inside z

  data_settles : (gap identifier remote count start : ℕ) → settled (read_data s gap identifier remote count start) ≡ true
      → read_data (s ++ t) gap identifier remote count start ≡ read_data s gap identifier remote count start
  data_settles gap identifier remote count start = go (leb count (length s - start)) refl
    where
      go : (b : Bool) → leb count (length s - start) ≡ b → settled (cond b (recorded gap identifier remote start count (start + count)) (cut_off_at (length s))) ≡ true
          → read_data (s ++ t) gap identifier remote count start ≡ cond b (recorded gap identifier remote start count (start + count)) (cut_off_at (length s))
      go true e z =
          let l : count ≤ length s - start = leb-true _ _ e in
          rw (le-leb count (length (s ++ t) - start) (omega (arith, length-append s t)))
      go false e z = absurd (different cc)

  settles : (at : ℕ) (b : Bool) → ltb at (length s) ≡ b → settled (cond b (after s at (number_at s at most_gap) (read_word s)) End) ≡ true
      → read_record (s ++ t) at ≡ cond b (after s at (number_at s at most_gap) (read_word s)) End
  unfolding read_within
  settles at false e z = absurd (different cc)
  settles at true e z =
      let l : at < length s = ltb-true _ _ e in
      rw (lt-ltb at (length (s ++ t)) (omega (arith, length-append s t)))
      (after_settles most_gap at (read_word s) (read_word (s ++ t)) (omega arith)
      (λ gap p₁ h₁. after_settles most_word p₁ (λ word next. read_count s gap (word / 2) (word % 2) next) (λ word next. read_count (s ++ t) gap (word / 2) (word % 2) next) h₁
      (λ word p₂ h₂. after_settles most_count p₂ (read_data s gap (word / 2) (word % 2)) (read_data (s ++ t) gap (word / 2) (word % 2)) h₂
      (λ count start _. data_settles gap (word / 2) (word % 2) count start)))
      z)

pub window_settles : WindowSettles
unfolding read_within
window_settles s t at z = settles s t at (ltb at (length s)) refl z

module _ (p s : List ℕ) where
  abbrev k : ℕ
  k = length p

  long : length (p ++ s) ≡ k + length s
  long = length-append p s

  after_moves : (most at : ℕ) (rest rest' : ℕ → ℕ → Entry) → ((v next : ℕ) → rest' v (k + next) ≡ further k (rest v next))
      → after (p ++ s) (k + at) (number_at (p ++ s) (k + at) most) rest' ≡ further k (after s at (number_at s at most) rest)
  after_moves most at rest rest' f =
      ap (λ (n : Found). after (p ++ s) (k + at) n rest') (ap (read_number (groups_of most) most (k + at)) (drop-append-add p s at) ∙ number_moves (groups_of most) most k at (drop at s))
      ∙ by (number_at s at most)
    where
      by : (r : Found) → after (p ++ s) (k + at) (moved k r) rest' ≡ further k (after s at r rest)
      by (Err Ends) = ap cut_off_at long
      by (Err (Bad q)) = refl
      by (Ok (v, groups)) =
          let on : k + at + groups ≡ k + (at + groups) = omega arith in
          ap (rest' v) on ∙ f v (at + groups)

  data_moves : (gap identifier remote count start : ℕ) → read_data (p ++ s) gap identifier remote count (k + start) ≡ further k (read_data s gap identifier remote count start)
  data_moves gap identifier remote count start =
      let room : length (p ++ s) - (k + start) ≡ length s - start = omega (arith, long) in
      let on : k + start + count ≡ k + (start + count) = omega arith in
      ap (λ (n : ℕ). cond (leb count n) (recorded gap identifier remote (k + start) count (k + start + count)) (cut_off_at (length (p ++ s)))) room
      ∙ cond_moves (further k) (leb count (length s - start)) (recorded gap identifier remote start count (start + count)) (cut_off_at (length s)) _ _
      (ap (recorded gap identifier remote (k + start) count) on) (ap cut_off_at long)

pub window_moves : WindowMoves
unfolding read_within
window_moves p s at =
    let n : length (p ++ s) ≡ length p + length s = length-append p s in
    let t : ltb (length p + at) (length (p ++ s)) ≡ ltb at (length s) = same_test (length p + at) (length (p ++ s)) at (length s) (λ h. omega arith) (λ h. omega arith) in
    rw t
    (cond_moves (further (length p)) (ltb at (length s)) (after s at (number_at s at most_gap) (read_word s)) End _ _
    (after_moves p s most_gap at (read_word s) (read_word (p ++ s))
    (λ gap p₁. after_moves p s most_word p₁ (λ word next. read_count s gap (word / 2) (word % 2) next) (λ word next. read_count (p ++ s) gap (word / 2) (word % 2) next)
    (λ word p₂. after_moves p s most_count p₂ (read_data s gap (word / 2) (word % 2)) (read_data (p ++ s) gap (word / 2) (word % 2))
    (λ count start. data_moves p s gap (word / 2) (word % 2) count start))))
    refl)
