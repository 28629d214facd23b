-- Laws of reading records.
--     found               what follows a number, where what was read of it is known
--     fits_at, past_fits  a number that was read fits
--     gap_taken           a gap that was read on the quick way
--     headed, head-room   a record by its gap and its word, and the room after them
--     counted             a record by its count
--     entry_elim          what holds of every fault, and of a record whose data fit, holds of what is read
--     records_are_whole   every record that is read is whole
--     faults_are_placed   a fault has the offset of its byte for 16, and the input's length for 15
--     leftover_is_short   what is not settled is shorter than the longest record
--     old_recordings_read what the rule of older recordings finds, 16 aside, is found
--     gap_first           before the end a record begins with its gap
--     past_end, only_past_end    the end is found past the input's last byte, and nowhere else
-- Assumes nothing.
use mathlib.Core.Path.{◌≡◌, refl, ap, sym, subst, ◌∙◌}
use mathlib.Core.Bool.{Bool, true, false, cond}
use mathlib.Core.List.{List}
use mathlib.Core.Logic.{◌⊎◌, inl, inr}
use Prim.Native.Nat.{ℕ, ◌+◌, ◌-◌, ◌/◌, ◌%◌, ◌≤◌, ◌<◌}
use native.Mathlib.Omega.{arith}
use lib.ListN.{length, get_or}
use lib.Dec.{ltb, leb}
use borrow.Author.Tests.{leb-true, leb-false, le-leb, lt-ltb, le-ltb, ltb-false}
use Rattle.laws.proofs.Choices.{cond_elim}
use Rattle.laws.proofs.Testing.{not_both}
use Rattle.std.specs.Prelude.{Some, Ok, Err}
use Rattle.groups.specs.declared.scan.NumberFault.TheVariants.{Ends, Bad}
use Rattle.laws.specs.Refusals.{cut_off, bad_number}
use Rattle.recording.specs.Limits.{most_gap, gap_groups, most_word, word_groups, most_count, count_groups, longest, old_most_gap}
use Rattle.groups.specs.Number.{Found, groups_of, number_at}
use Rattle.recording.specs.Record.{Entry, recorded, End, Broken, past, after, read_data, read_count, read_word, read_within, read_record, cut_off_at, bad_number_at}
use Rattle.recording.specs.Statements.{Whole, RecordsAreWhole, FaultsArePlaced, LeftoverIsShort, OldRecordingsRead}
use Rattle.recording.specs.Window.{settled}
use Rattle.groups.proofs.Reading.{different, Fits, number_last, value_at_lem, bad_at_lem, ends_at}
use Rattle.numbers.specs.Statements.{is_bad}
use Rattle.numbers.proofs.Spelling.{more_is_allowed}
use Rattle.numbers.proofs.Standing.{Stands, stood}
use Rattle.recording.proofs.Ranges.{in_range_lem, gap_groups_lem, word_groups_lem, count_groups_lem}

pub found : (s : List ℕ) (at : ℕ) (rest : ℕ → ℕ → Entry) {read r n : Found} → read ≡ r → read ≡ n → after s at r rest ≡ after s at n rest
found s at rest e f = ap (λ (n : Found). after s at n rest) (sym e ∙ f)

-- a number that was read fits
pub fits_at : (s : List ℕ) (at most left : ℕ) → groups_of most ≡ left → {r : Found} (v groups : ℕ) → r ≡ number_at s at most → r ≡ Ok (v, groups) → Fits left most at (length s) v groups
fits_at s at most left e {r} v groups read is =
    subst (λ (n : ℕ). Fits n most at (length s) v groups) e (value_at_lem (groups_of most) most at s r v groups read is)

-- so does one that was read with the offset past it
pub past_fits : (s : List ℕ) (at most v next : ℕ) → Ok (v, next) ≡ past s at (number_at s at most) → (v ≤ most) × (next ≤ length s)
past_fits s at most v next = go (number_at s at most) refl
  where
    go : (r : Found) → r ≡ number_at s at most → Ok (v, next) ≡ past s at r → (v ≤ most) × (next ≤ length s)
    go (Err Ends) e q = absurd (different cc)
    go (Err (Bad p)) e q = absurd (different cc)
    go (Ok (w, groups)) e q =
        let fits = value_at_lem (groups_of most) most at s (Ok (w, groups)) w groups e refl in
        let same : ◌≡◌ {A = ℕ × ℕ} (v, next) (w, at + groups) = cc in
        (omega (arith, ap (λ (x : ℕ × ℕ). x.0) same, fits.small), omega (arith, ap (λ (x : ℕ × ℕ). x.1) same, fits.inside))

-- a gap of `groups` groups on the quick way
pub gap_taken : (s : List ℕ) (at value groups last : ℕ) {next v n : ℕ} → (value ≤ most_gap) × (next - at ≡ groups) → (0 < last → Stands s at value groups)
    → (v ≡ value) × (n ≡ next) × (0 < last) → Ok (v, n - at) ≡ number_at s at most_gap
gap_taken s at value groups last {next} {v} {n} fits stands says =
    let count : n - at ≡ groups = ap (λ (m : ℕ). m - at) says.1 ∙ fits.1 in
    (λ i. Ok (says.0 i, count i)) ∙ stood s at most_gap value groups (omega arith) fits.0 (stands says.2)

-- where the gap and the word were read, the record is what its count gives, and after them there is room where the longest record has room
module _ (s : List ℕ) (at gap word p next : ℕ) (first : Ok (gap, p - at) ≡ number_at s at most_gap) (second : Ok (word, next - p) ≡ number_at s p most_word) where
  gap_fits : Fits gap_groups most_gap at (length s) gap (p - at)
  gap_fits = fits_at s at most_gap gap_groups gap_groups_lem gap (p - at) first refl

  word_fits : Fits word_groups most_word p (length s) word (next - p)
  word_fits = fits_at s p most_word word_groups word_groups_lem word (next - p) second refl

  pub headed : at < length s → read_count s gap (word / 2) (word % 2) next ≡ read_record s at
  unfolding read_within
  headed h =
      let f = gap_fits in
      let g = word_fits in
      let past-gap : p ≡ at + (p - at) = omega arith in
      let past_word : next ≡ p + (next - p) = omega arith in
      rw (lt-ltb at (length s) h)
      (ap (read_count s gap (word / 2) (word % 2)) past_word ∙ found s p (λ w q. read_count s gap (w / 2) (w % 2) q) refl second ∙ ap (read_word s gap) past-gap ∙ found s at (read_word s) refl first)

  pub head-room : at + longest ≤ length s → next + (count_groups + most_count) ≤ length s
  head-room h = let f = gap_fits in let g = word_fits in omega arith

-- where a count and the data after it have room, the record
pub counted : (s : List ℕ) (gap identifier remote at count : ℕ) → at + (count_groups + most_count) ≤ length s → count ≡ get_or s at 0 → count ≤ most_count
    → recorded gap identifier remote (at + 1) count (at + 1 + count) ≡ read_count s gap identifier remote at
counted s gap identifier remote at count room byte few =
    rw (le-leb count (length s - (at + 1)) (omega arith)) at
    (found s at (read_data s gap identifier remote) refl (number_last (groups_of most_count) most_count at s count (omega arith) (λ e. omega (arith, count_groups_lem)) byte few (omega arith)))

after_elim : (P : Entry → Type 0) (s : List ℕ) (most left at : ℕ) → groups_of most ≡ left → (rest : ℕ → ℕ → Entry) → (length s - at ≤ left - 1 → P (cut_off_at (length s)))
    → ((p : ℕ) → number_at s at most ≡ Err (Bad p) → at ≤ p → p < length s → P (bad_number_at p))
    → ((v groups : ℕ) → number_at s at most ≡ Ok (v, groups) → Fits left most at (length s) v groups → P (rest v (at + groups)))
    → P (after s at (number_at s at most) rest)
after_elim P s most left at allowed rest cut bad value = go (number_at s at most) refl
  where
    go : (r : Found) → r ≡ number_at s at most → P (after s at r rest)
    go (Err Ends) e = cut (omega (arith, ends_at (groups_of most) most at s e))
    go (Err (Bad p)) e = let w = bad_at_lem (groups_of most) most at s p e in bad p (sym e) w.0 w.1
    go (Ok (v, groups)) e = value v groups (sym e) (fits_at s at most left allowed v groups e refl)

-- an entry that was read at `at`, by its three numbers: what holds of every fault, and of a record whose data fit, holds of it;
-- a bad byte at `at` itself is the gap's
pub entry_elim : (P : Entry → Type 0) (s : List ℕ) (at : ℕ) → (length s ≤ at → P End) → (length s < at + longest → P (cut_off_at (length s)))
    → ((p : ℕ) → (at ≡ p → number_at s at most_gap ≡ Err (Bad p)) → at ≤ p → p < length s → P (bad_number_at p))
    → ((gap word count g₁ g₂ g₃ : ℕ) → number_at s at most_gap ≡ Ok (gap, g₁) → number_at s (at + g₁) most_word ≡ Ok (word, g₂) → number_at s (at + g₁ + g₂) most_count ≡ Ok (count, g₃)
    → Fits gap_groups most_gap at (length s) gap g₁ → Fits word_groups most_word (at + g₁) (length s) word g₂ → Fits count_groups most_count (at + g₁ + g₂) (length s) count g₃
    → count ≤ length s - (at + g₁ + g₂ + g₃) → P (recorded gap (word / 2) (word % 2) (at + g₁ + g₂ + g₃) count (at + g₁ + g₂ + g₃ + count)))
    → P (read_record s at)
unfolding read_within
entry_elim P s at end cut bad found = cond_elim P (ltb at (length s)) _ _
    (λ _. after_elim P s most_gap gap_groups at gap_groups_lem (read_word s) (λ n. cut (omega arith)) (λ p e. bad p (λ _. e))
    (λ gap g₁ e₁ f₁. after_elim P s most_word word_groups (at + g₁) word_groups_lem (λ word next. read_count s gap (word / 2) (word % 2) next) (λ n. cut (omega arith)) (λ p _ h. bad p (λ same. absurd (omega arith)) (omega arith))
    (λ word g₂ e₂ f₂. after_elim P s most_count count_groups (at + g₁ + g₂) count_groups_lem (read_data s gap (word / 2) (word % 2)) (λ n. cut (omega arith)) (λ p _ h. bad p (λ same. absurd (omega arith)) (omega arith))
    (λ count g₃ e₃ f₃. cond_elim P (leb count (length s - (at + g₁ + g₂ + g₃))) _ _
    (λ t. found gap word count g₁ g₂ g₃ e₁ e₂ e₃ f₁ f₂ f₃ (leb-true _ _ t))
    (λ t. let few : length s - (at + g₁ + g₂ + g₃) < count = leb-false _ _ t in cut (omega arith))))))
    (λ t. end (ltb-false _ _ t))

-- what holds of an entry that was read at `at`
abbrev Sound : List ℕ → ℕ → Entry → Type 0
Sound s at (Ok (Some r)) = Whole (length s) at r.gap r.identifier r.remote r.start r.len r.next
Sound s at End = Unit
Sound s at (Broken refusal offset) = ((refusal ≡ cut_off) × (offset ≡ length s)) ⊎ ((refusal ≡ bad_number) × (at ≤ offset) × (offset < length s))

sound : (s : List ℕ) (at : ℕ) → Sound s at (read_record s at)
sound s at = entry_elim (Sound s at) s at (λ _. tt) (λ _. inl (refl, refl)) (λ p _ h l. inr (refl, h, l))
    (λ gap word count g₁ g₂ g₃ _ _ _ f₁ f₂ f₃ l. record {
      in_range = in_range_lem gap (word / 2) (word % 2) count (record { gap_fits = f₁.small; identifier-fits = omega (arith, f₂.small); remote_fits = omega arith; few = f₃.small });
      starts = omega arith;
      ends = refl;
      inside = omega arith;
    })

pub records_are_whole : RecordsAreWhole
records_are_whole s at gap identifier remote start len next e = subst (Sound s at) e (sound s at)

pub faults_are_placed : FaultsArePlaced
faults_are_placed s at refusal offset e = subst (Sound s at) e (sound s at)

pub leftover_is_short : LeftoverIsShort
leftover_is_short s at = entry_elim (λ (e : Entry). settled e ≡ false → length s < at + longest) s at (λ l _. omega arith) (λ l _. l)
    (λ p _ _ _ z. not_both (sym z)) (λ gap word count g₁ g₂ g₃ _ _ _ _ _ _ _ z. not_both (sym z))

-- before the end a record begins with its gap
pub gap_first : (s : List ℕ) (at : ℕ) → at < length s → after s at (number_at s at most_gap) (read_word s) ≡ read_record s at
unfolding read_within
gap_first s at h = rw (lt-ltb at (length s) h)

pub past_end : (s : List ℕ) (at : ℕ) → length s ≤ at → read_record s at ≡ End
unfolding read_within
past_end s at h = rw (le-ltb at (length s) h)

-- and nowhere else
pub only_past_end : (s : List ℕ) (at : ℕ) → read_record s at ≡ End → length s ≤ at
only_past_end s at = entry_elim (λ (e : Entry). e ≡ End → length s ≤ at) s at (λ l _. l) (λ _ e. absurd (different cc)) (λ p _ _ _ e. absurd (different cc))
    (λ gap word count g₁ g₂ g₃ _ _ _ _ _ _ _ e. absurd (different cc))

-- where the gap is not bad under a smaller greatest one, it is the same
same_gap : (s : List ℕ) (at : ℕ) (r : Found) → number_at s at old_most_gap ≡ r → ((p : ℕ) → after s at r (read_word s) ≡ bad_number_at p → ⊥)
    → after s at (number_at s at most_gap) (read_word s) ≡ after s at r (read_word s)
same_gap s at (Err (Bad p)) e other = absurd (other p refl)
same_gap s at (Err Ends) e other = ap (λ (n : Found). after s at n (read_word s)) (more_is_allowed s at old_most_gap most_gap (omega arith) (ap is_bad e) ∙ e)
same_gap s at (Ok (v, groups)) e other = ap (λ (n : Found). after s at n (read_word s)) (more_is_allowed s at old_most_gap most_gap (omega arith) (ap is_bad e) ∙ e)

pub old_recordings_read : OldRecordingsRead
unfolding read_within
old_recordings_read s at = go (ltb at (length s))
  where
    go : (b : Bool) → ((p : ℕ) → cond b (after s at (number_at s at old_most_gap) (read_word s)) End ≡ bad_number_at p → ⊥)
        → cond b (after s at (number_at s at most_gap) (read_word s)) End ≡ cond b (after s at (number_at s at old_most_gap) (read_word s)) End
    go true other = same_gap s at (number_at s at old_most_gap) refl other
    go false other = refl
