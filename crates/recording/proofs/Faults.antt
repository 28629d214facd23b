-- Where a fault becomes certain.
--     first_part        what a first part of the input gives: what the whole gives, or 15 where that lies further on
--     fault_is_certain, mendable_is_cut
-- Assumes nothing.
use mathlib.Core.Path.{◌≡◌, refl, sym, ap, subst, ◌∙◌}
use mathlib.Core.List.{List, ◌++◌}
use mathlib.Core.Bool.{Bool, true, false, cond}
use Prim.Native.Nat.{ℕ, suc, ◌+◌, ◌-◌, ◌/◌, ◌%◌, ◌≤◌, ◌<◌}
use native.Mathlib.Omega.{arith}
use lib.ListN.{length, take, drop, get_or, length-append, take-append-drop}
use lib.Seq.{drop-cons, length-take-le}
use lib.Dec.{ltb, leb}
use borrow.Author.Tests.{lt-ltb, le-ltb, le-leb, leb-true, leb-false, ltb-true, ltb-false}
use Rattle.laws.specs.Limits.{AllBytes}
use Rattle.laws.proofs.Choices.{cond_elim}
use Rattle.laws.proofs.Testing.{not_both}
use Rattle.std.specs.Prelude.{Some, Ok, Err}
use Rattle.groups.specs.declared.scan.NumberFault.TheVariants.{Ends, Bad}
use Rattle.recording.specs.Limits.{most_gap, most_word, most_count}
use Rattle.groups.specs.Number.{Found, groups_of, read_number, number_at}
use Rattle.recording.specs.Record.{Entry, End, Broken, after, read_data, read_count, read_word, read_within, read_record, cut_off_at, bad_number_at}
use Rattle.recording.specs.Window.{settled, is_record}
use Rattle.recording.specs.Statements.{FaultIsCertain, MendableIsCut}
use Rattle.groups.proofs.Reading.{different, bad_at_lem}
use Rattle.numbers.proofs.Parts.{cond_moves, cut_number, number_at_cut, Past, number_past}
use Rattle.recording.proofs.Windows.{window_settles}
use Rattle.recording.proofs.Ranges.{gap_groups_lem}
use Rattle.recording.proofs.Entries.{entry_elim}

-- an entry, where only the bytes before the offset `end` are read
abbrev cut_entry : ℕ → Entry → Entry
cut_entry end (Ok (Some r)) = cond (ltb end r.next) (cut_off_at end) (Ok (Some r))
cut_entry end End = End
cut_entry end (Broken refusal offset) = cond (ltb end (offset + 1)) (cut_off_at end) (Broken refusal offset)

module _ (s t : List ℕ) where
  abbrev w : List ℕ
  w = s ++ t

  abbrev end : ℕ
  end = length s

  long : length w ≡ end + length t
  long = length-append s t

  -- the end of the whole is cut off too
  cut_off_cut : cut_entry end (cut_off_at (length w)) ≡ cut_off_at end
  cut_off_cut = rw (lt-ltb end (length w + 1) (omega (arith, long)))

  -- what is found from an offset on in s, and in the whole: up to the end of s that of the whole, cut; and further on nothing of it
  record Cuts (part whole : ℕ → Entry) : Type 0 where
    within : (at : ℕ) → at ≤ end → part at ≡ cut_entry end (whole at)
    beyond : (at : ℕ) → end < at → cut_entry end (whole at) ≡ cut_off_at end

  after_cuts : (most : ℕ) (rest rest' : ℕ → ℕ → Entry) → ((v : ℕ) → Cuts (rest v) (rest' v))
      → Cuts (λ at. after s at (number_at s at most) rest) (λ at. after w at (number_at w at most) rest')
  after_cuts most rest rest' f = record {
    within = λ at h. ap (λ (n : Found). after s at n rest) (number_at_cut s t (groups_of most) most at h) ∙ inside at (number_at w at most) refl;
    beyond = λ at h. outside at h (number_at w at most) refl;
  }
    where
      inside : (at : ℕ) (r : Found) → r ≡ number_at w at most → after s at (cut_number at end r) rest ≡ cut_entry end (after w at r rest')
      inside at (Err Ends) e = sym cut_off_cut
      inside at (Err (Bad p)) e = sym (cond_moves (λ (n : Found). after s at n rest) (ltb end (p + 1)) (Err Ends) (Err (Bad p)) _ _ refl refl)
      inside at (Ok (v, groups)) e = go (ltb end (at + groups)) refl
        where
          go : (b : Bool) → ltb end (at + groups) ≡ b → after s at (cond b (Err Ends) (Ok (v, groups))) rest ≡ cut_entry end (rest' v (at + groups))
          go true q = sym ((f v).beyond (at + groups) (ltb-true _ _ q))
          go false q = (f v).within (at + groups) (ltb-false _ _ q)

      outside : (at : ℕ) → end < at → (r : Found) → r ≡ number_at w at most → cut_entry end (after w at r rest') ≡ cut_off_at end
      outside at h (Err Ends) e = cut_off_cut
      outside at h (Err (Bad p)) e = rw (lt-ltb end (p + 1) (omega (arith, (bad_at_lem (groups_of most) most at w p e).0)))
      outside at h (Ok (v, groups)) e = (f v).beyond (at + groups) (omega arith)

  data_cuts : (gap identifier remote count : ℕ) → Cuts (read_data s gap identifier remote count) (read_data w gap identifier remote count)
  data_cuts gap identifier remote count = record {
    within = λ at h.
        cond_elim (λ (e : Entry). e ≡ cut_entry end (read_data w gap identifier remote count at)) (leb count (end - at)) _ _
        (λ q. let l : count ≤ end - at = leb-true _ _ q in
        rw (le-leb count (length w - at) (omega (arith, long)), le-ltb end (at + count) (omega arith)))
        (λ q. let l : end - at < count = leb-false _ _ q in past at (omega arith));
    beyond = λ at h. sym (past at (omega arith));
  }
    where
      past : (at : ℕ) → end < at + count → cut_off_at end ≡ cut_entry end (read_data w gap identifier remote count at)
      past at h = sym (cond_elim (λ (e : Entry). cut_entry end e ≡ cut_off_at end) (leb count (length w - at)) _ _ (λ _. rw (lt-ltb end (at + count) h)) (λ _. cut_off_cut))

  pub first_part : (at : ℕ) → at < end → read_record s at ≡ cut_entry end (read_record w at)
  unfolding read_within
  first_part at h =
      rw (lt-ltb at end h, lt-ltb at (length w) (omega (arith, long)))
      ((after_cuts most_gap (read_word s) (read_word w)
      (λ gap. after_cuts most_word (λ word next. read_count s gap (word / 2) (word % 2) next) (λ word next. read_count w gap (word / 2) (word % 2) next)
      (λ word. after_cuts most_count (read_data s gap (word / 2) (word % 2)) (read_data w gap (word / 2) (word % 2)) (data_cuts gap (word / 2) (word % 2))))
      ).within at (omega arith))

pub mendable_is_cut : MendableIsCut
mendable_is_cut s t at inside none some = go (read_record (s ++ t) at) refl
  where
    go : (e : Entry) → read_record (s ++ t) at ≡ e → read_record s at ≡ cut_off_at (length s)
    go End e = not_both (sym (ap is_record e) ∙ some)
    go (Broken refusal offset) e = not_both (sym (ap is_record e) ∙ some)
    go (Ok (Some r)) e =
        let first : read_record s at ≡ cond (ltb (length s) r.next) (cut_off_at (length s)) (Ok (Some r)) = first_part s t at inside ∙ ap (cut_entry (length s)) e in
        cond_elim (λ (e : Entry). read_record s at ≡ e → read_record s at ≡ cut_off_at (length s)) (ltb (length s) r.next) _ _ (λ _ q. q) (λ _ q. not_both (sym none ∙ ap is_record q)) first

module _ (s : List ℕ) (bytes : AllBytes s) (at p : ℕ) where
  -- so no bad byte is a record's first
  gap_past : (q : ℕ) → (at ≡ q → number_at s at most_gap ≡ Err (Bad q)) → at ≤ q → q < length s → at < q
  gap_past q first h l =
      cond_elim (λ (b : Bool). at < q) (ltb at q) true false (λ e. ltb-true at q e)
      (λ e. let here : q ≤ at = ltb-false at q e in
      subst (Past at)
      ((λ i. read_number (sym gap_groups_lem i) most_gap at (sym (drop-cons s at 0 (omega arith)) i)) ∙ first (omega arith))
      (number_past 3 most_gap at (get_or s at 0) (drop (suc at) s) (omega (arith, bytes at))))

  -- a fault's refusal number and offset
  abbrev fault_in : Entry → ℕ × ℕ
  fault_in (Ok r) = (0, 0)
  fault_in (Err fault) = fault

  bad_past : read_record s at ≡ bad_number_at p → (at < p) × (p < length s)
  bad_past = entry_elim (λ (e : Entry). e ≡ bad_number_at p → (at < p) × (p < length s)) s at (λ _ e. absurd (different cc)) (λ _ e. absurd (different (omega (arith, ap (λ (x : Entry). (fault_in x).0) e))))
      (λ q first l n e. let same : q ≡ p = ap (λ (x : Entry). (fault_in x).1) e in let past = gap_past q first l n in (omega arith, omega arith))
      (λ gap word count g₁ g₂ g₃ _ _ _ _ _ _ _ e. absurd (different cc))

  -- the first k bytes of the input
  first_bytes : (k : ℕ) → at < k → k ≤ length s → read_record s at ≡ bad_number_at p → read_record (take k s) at ≡ cut_entry k (bad_number_at p)
  first_bytes k h l e =
      let n : length (take k s) ≡ k = length-take-le k s l in
      first_part (take k s) (drop k s) at (omega arith) ∙ (λ i. cut_entry (n i) (read_record (take-append-drop k s i) at)) ∙ ap (cut_entry k) e

pub fault_is_certain : FaultIsCertain
fault_is_certain s bytes at p e =
    let past = bad_past s bytes at p e in
    let shown : read_record (take (p + 1) s) at ≡ bad_number_at p = first_bytes s bytes at p (p + 1) (omega arith) (omega arith) e ∙ (rw (le-ltb (p + 1) (p + 1) (omega arith))) in
    (λ t. window_settles (take (p + 1) s) t at (ap settled shown) ∙ shown, first_bytes s bytes at p p (omega arith) (omega arith) e ∙ (rw (lt-ltb p (p + 1) (omega arith))))
