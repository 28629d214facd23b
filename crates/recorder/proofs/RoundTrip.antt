-- What is written reads back, and what is read and written again is the same bytes.
--     bytes_read_back, written_is_read, read_is_written    the statements on records
-- Assumes nothing.
use mathlib.Core.Path.{◌≡◌, refl, sym, ap, subst, ◌∙◌}
use mathlib.Core.List.{List, [], ◌∷◌, ◌++◌, append_assoc}
use mathlib.Core.Bool.{Bool, true, false, cond}
use Prim.Native.Nat.{ℕ, ◌+◌, ◌-◌, ◌*◌, ◌/◌, ◌%◌, ◌≤◌, ◌<◌}
use native.Mathlib.Omega.{arith}
use lib.ListN.{length, take, drop, length-append, length-drop, take-append-drop}
use lib.Seq.{drop-drop, drop-append_seam, take-append_seam, length-take-le, drop_at}
use lib.Dec.{leb}
use borrow.Author.Tests.{lt-ltb, le-leb, leb-true}
use Rattle.laws.proofs.Stores.{drop-after}
use Rattle.std.specs.Prelude.{Some, Result, Ok, Err}
use Rattle.laws.specs.Refusals.{too_short, bad_number}
use Rattle.recording.specs.Limits.{most_gap, most_word, most_count, in_range}
use Rattle.groups.specs.Number.{Found, most_groups, bytes_of, groups_of, number_at}
use Rattle.recording.specs.Record.{Entry, recorded, End, Broken, after, read_data, read_count, read_word, read_within, read_record}
use Rattle.recorder.specs.Write.{record_bytes, put_answer, put_bytes, placed}
use Rattle.laws.specs.Limits.{AllBytes}
use Rattle.recorder.specs.Statements.{StandsAt, BytesReadBack, WrittenIsRead, ReadIsWritten}
use Rattle.groups.proofs.Writing.{bytes_last}
use Rattle.numbers.proofs.Spelling.{read_at, read_is_spelt}
use Rattle.recorder.proofs.Writing.{record-length, put-done}
use Rattle.recording.proofs.Ranges.{Ranged, ranged}
use Rattle.recording.proofs.Entries.{entry_elim, records_are_whole}

-- where a record's bytes stand at `at`, and q after them, the record is read
module _ (s : List ℕ) (at gap identifier remote : ℕ) (ds q : List ℕ) (fits : in_range gap identifier remote (length ds) ≡ true)
    (here : drop at s ≡ record_bytes gap identifier remote ds ++ q) where
  abbrev word : ℕ
  word = 2 * identifier + remote

  abbrev p₁ : ℕ
  p₁ = at + length (bytes_of gap)

  abbrev p₂ : ℕ
  p₂ = p₁ + length (bytes_of word)

  ranges : Ranged gap identifier remote (length ds)
  ranges = ranged gap identifier remote (length ds) fits

  parts : drop at s ≡ bytes_of gap ++ (bytes_of word ++ (length ds ∷ (ds ++ q)))
  unfolding record_bytes
  parts =
      here ∙ append_assoc (bytes_of gap) (bytes_of word ++ (length ds ∷ ds)) q
      ∙ ap (λ (l : List ℕ). bytes_of gap ++ l) (append_assoc (bytes_of word) (length ds ∷ ds) q)

  rest₁ : drop p₁ s ≡ bytes_of word ++ (length ds ∷ (ds ++ q))
  rest₁ = drop-after s at (bytes_of gap) _ parts

  rest₂ : drop p₂ s ≡ length ds ∷ (ds ++ q)
  rest₂ = drop-after s p₁ (bytes_of word) _ rest₁

  rest₃ : drop (p₂ + 1) s ≡ ds ++ q
  rest₃ = drop-after s p₂ (length ds ∷ []) (ds ++ q) rest₂

  read₁ : number_at s at most_gap ≡ Ok (gap, groups_of gap)
  read₁ = let r = ranges in read_at s at gap most_gap _ r.gap_fits (omega arith) parts

  read₂ : number_at s p₁ most_word ≡ Ok (word, groups_of word)
  read₂ = let r = ranges in read_at s p₁ word most_word _ (omega arith) (omega arith) rest₁

  read₃ : number_at s p₂ most_count ≡ Ok (length ds, 1)
  read₃ =
      let r = ranges in
      let one : bytes_of (length ds) ≡ length ds ∷ [] = bytes_last most_groups (length ds) (λ e. omega arith) (omega arith) in
      read_at s p₂ (length ds) most_count (ds ++ q) r.few (omega arith) (rest₂ ∙ ap (λ (l : List ℕ). l ++ (ds ++ q)) (sym one))
      ∙ ap (λ (l : List ℕ). Ok (length ds, length l)) one

  inside : at < length s
  inside = omega (arith, length-drop at s, ap length here, length-append (record_bytes gap identifier remote ds) q, record-length gap identifier remote ds)

  enough : length ds ≤ length s - (p₂ + 1)
  enough = omega (arith, length-drop (p₂ + 1) s, ap length rest₃, length-append ds q)

  record-read : read_record s at ≡ recorded gap identifier remote (p₂ + 1) (length ds) (p₂ + 1 + length ds)
  unfolding read_within
  record-read =
      let r = ranges in
      let i : word / 2 ≡ identifier = omega arith in
      let f : word % 2 ≡ remote = omega arith in
      rw (lt-ltb at (length s) inside)
      (ap (λ (n : Found). after s at n (read_word s)) read₁
      ∙ ap (λ (n : Found). after s p₁ n (λ word next. read_count s gap (word / 2) (word % 2) next)) read₂
      ∙ ap (λ (n : Found). after s p₂ n (read_data s gap (word / 2) (word % 2))) read₃
      ∙ (rw (le-leb (length ds) (length s - (p₂ + 1)) enough) (λ k. recorded gap (i k) (f k) (p₂ + 1) (length ds) (p₂ + 1 + length ds))))

  stands : (next : ℕ) → next ≡ at + length (record_bytes gap identifier remote ds) → StandsAt s at gap identifier remote ds next
  stands next e =
      let st : p₂ + 1 ≡ next - length ds = omega (arith, record-length gap identifier remote ds) in
      let nx : p₂ + 1 + length ds ≡ next = omega (arith, record-length gap identifier remote ds) in (
        record-read ∙ (λ k. recorded gap identifier remote (st k) (length ds) (nx k)),
        ap (λ (n : ℕ). take (length ds) (drop n s)) (sym st) ∙ ap (take (length ds)) rest₃ ∙ take-append_seam ds q,
      )

pub bytes_read_back : BytesReadBack
bytes_read_back before after gap identifier remote ds fits =
    let bytes : List ℕ = record_bytes gap identifier remote ds in
    stands (before ++ (bytes ++ after)) (length before) gap identifier remote ds after fits (drop-append_seam before (bytes ++ after)) (length before + length bytes) refl

-- an answer that is no refusal comes from the choice that gives it
wrote : (t : Bool) (x : Result ℕ ℕ) (k n : ℕ) → cond t x (Err k) ≡ Ok n → (t ≡ true) × (x ≡ Ok n)
wrote true x k n e = (refl, e)
wrote false x k n e = absurd (let z : ◌≡◌ {A = ℕ} 0 1 = cc in omega arith)

pub written_is_read : WrittenIsRead
unfolding put_answer
written_is_read b at gap identifier remote ds n e =
    let bytes : List ℕ = record_bytes gap identifier remote ds in
    let c₁ = wrote (in_range gap identifier remote (length ds)) (cond (leb (at + length bytes) (length b)) (Ok (length bytes)) (Err too_short)) bad_number n e in
    let c₂ = wrote (leb (at + length bytes) (length b)) (Ok (length bytes)) too_short n c₁.1 in
    let same : ◌≡◌ {A = Result ℕ ℕ} (Ok (length bytes)) (Ok n) = c₂.1 in
    let count : length bytes ≡ n = cc in
    let fits : at + length bytes ≤ length b = leb-true _ _ c₂.0 in
    let put : placed b at bytes ≡ put_bytes b at gap identifier remote ds = (put-done b at gap identifier remote ds c₁.0 fits).1 in
    let here : drop at (put_bytes b at gap identifier remote ds) ≡ bytes ++ drop (at + length bytes) b =
    ap (drop at) (sym put) ∙ drop_at (take at b) (bytes ++ drop (at + length bytes) b) at (length-take-le at b (omega arith)) in
    stands (put_bytes b at gap identifier remote ds) at gap identifier remote ds (drop (at + length bytes) b) c₁.0 here (at + n) (ap (λ (k : ℕ). at + k) (sym count))

-- from `at` on stand the bytes that writing the record gives
abbrev Same : List ℕ → ℕ → Entry → Type 0
Same s at (Ok (Some r)) = drop at s ≡ record_bytes r.gap r.identifier r.remote (take r.len (drop r.start s)) ++ drop r.next s
Same s at End = Unit
Same s at (Broken refusal offset) = Unit

together : (gap word count i r : ℕ) (ds q : List ℕ) → 2 * i + r ≡ word → length ds ≡ count
    → bytes_of gap ++ (bytes_of word ++ (count ∷ (ds ++ q))) ≡ record_bytes gap i r ds ++ q
unfolding record_bytes
together gap word count i r ds q w n =
    let G : List ℕ = bytes_of gap in
    (λ k. G ++ (bytes_of (sym w k) ++ (sym n k ∷ (ds ++ q))))
    ∙ sym (append_assoc G (bytes_of (2 * i + r) ++ (length ds ∷ ds)) q ∙ ap (λ (l : List ℕ). G ++ l) (append_assoc (bytes_of (2 * i + r)) (length ds ∷ ds) q))

same : (s : List ℕ) → AllBytes s → (at : ℕ) → Same s at (read_record s at)
same s by at = entry_elim (Same s at) s at (λ _. tt) (λ _. tt) (λ _ _ _ _. tt)
    (λ gap word count g₁ g₂ g₃ e₁ e₂ e₃ _ _ f₃ l.
    let start : ℕ = at + g₁ + g₂ + g₃ in
    let ds : List ℕ = take count (drop start s) in
    let q : List ℕ = drop (start + count) s in
    let n : length ds ≡ count = length-take-le count (drop start s) (omega (arith, length-drop start s)) in
    let one : bytes_of count ≡ count ∷ [] = bytes_last most_groups count (λ z. omega arith) (omega (arith, f₃.small)) in
    let w : 2 * (word / 2) + word % 2 ≡ word = omega arith in
    let tail : drop start s ≡ ds ++ q = sym (take-append-drop count (drop start s)) ∙ ap (λ (l : List ℕ). ds ++ l) (drop-drop count start s) in
    read_is_spelt s by at most_gap (omega arith) gap g₁ e₁
    ∙ ap (λ (l : List ℕ). bytes_of gap ++ l)
    (read_is_spelt s by (at + g₁) most_word (omega arith) word g₂ e₂
    ∙ ap (λ (l : List ℕ). bytes_of word ++ l) (read_is_spelt s by (at + g₁ + g₂) most_count (omega arith) count g₃ e₃ ∙ (λ i. one i ++ tail i)))
    ∙ together gap word count (word / 2) (word % 2) ds q w n)

pub read_is_written : ReadIsWritten
read_is_written s by at gap identifier remote start len next e =
    let w = records_are_whole s at gap identifier remote start len next e in
    let ds : List ℕ = take len (drop start s) in
    let bytes : List ℕ = record_bytes gap identifier remote ds in
    let h : drop at s ≡ bytes ++ drop next s = subst (Same s at) e (same s by at) in
    let n : length ds ≡ len = length-take-le len (drop start s) (omega (arith, w.ends, w.inside, length-drop start s)) in
    let fits : in_range gap identifier remote (length ds) ≡ true = ap (in_range gap identifier remote) n ∙ w.in_range in
    let count : length bytes ≡ next - at = omega (arith, ap length h, length-append bytes (drop next s), length-drop at s, length-drop next s, w.starts, w.ends, w.inside) in
    let past : at + length bytes ≡ next = omega (arith, w.starts, w.ends) in
    let done = put-done s at gap identifier remote ds fits (omega (arith, w.inside)) in (
      sym done.0 ∙ ap Ok count,
      sym done.1 ∙ ap (λ (k : ℕ). take at s ++ (bytes ++ drop k s)) past ∙ ap (λ (l : List ℕ). take at s ++ l) (sym h) ∙ take-append-drop at s,
    )
