-- Laws of a record's numbers.
--     gap_groups_lem, word_groups_lem, count_groups_lem      how many groups the greatest take
--     ranged, in_range_lem                        what a test of the ranges says
-- Assumes nothing.
use mathlib.Core.Path.{◌≡◌, refl}
use mathlib.Core.Bool.{true}
use Prim.Native.Nat.{ℕ, ◌≤◌}
use lib.Dec.{leb}
use borrow.Author.Tests.{le-leb, leb-true}
use Rattle.laws.proofs.Testing.{and_both}
use Rattle.laws.specs.Limits.{most_identifier}
use Rattle.recording.specs.Limits.{most_gap, gap_groups, most_word, word_groups, most_remote, most_count, count_groups, in_range}
use Rattle.groups.specs.Number.{number_bytes, groups_of}

pub gap_groups_lem : groups_of most_gap ≡ gap_groups
unfolding number_bytes
gap_groups_lem = refl

pub word_groups_lem : groups_of most_word ≡ word_groups
unfolding number_bytes
word_groups_lem = refl

pub count_groups_lem : groups_of most_count ≡ count_groups
unfolding number_bytes
count_groups_lem = refl

pub record Ranged (gap identifier remote count : ℕ) : Type 0 where
  pub gap_fits : gap ≤ most_gap
  pub identifier-fits : identifier ≤ most_identifier
  pub remote_fits : remote ≤ most_remote
  pub few : count ≤ most_count

pub ranged : (gap identifier remote count : ℕ) → in_range gap identifier remote count ≡ true → Ranged gap identifier remote count
unfolding in_range
ranged gap identifier remote count e =
    let p = and_both (leb gap most_gap) _ e in
    let q = and_both (leb identifier most_identifier) _ p.1 in
    let r = and_both (leb remote most_remote) _ q.1 in
    record { gap_fits = leb-true _ _ p.0; identifier-fits = leb-true _ _ q.0; remote_fits = leb-true _ _ r.0; few = leb-true _ _ r.1 }

pub in_range_lem : (gap identifier remote count : ℕ) → Ranged gap identifier remote count → in_range gap identifier remote count ≡ true
unfolding in_range
in_range_lem gap identifier remote count w =
    rw (le-leb gap most_gap w.gap_fits, le-leb identifier most_identifier w.identifier-fits, le-leb remote most_remote w.remote_fits, le-leb count most_count w.few)
