-- What is shown of the calls, as specs/Statements.antt states it: the row is the module's, what is written is the plan, and C is given the same.
-- Assumes nothing.
use Prim.Native.Nat.{ℕ, zero, suc, ◌+◌, ◌*◌, ◌/◌, ◌%◌, ◌<◌}
use native.Mathlib.Omega.{arith}
use mathlib.Core.Path.{◌≡◌, refl, sym, ap, ◌∙◌}
use mathlib.Core.Logic.{◌↔◌}
use mathlib.Core.Bool.{Bool, true, false, cond, ◌&&◌}
use mathlib.Core.List.{List, [], ◌∷◌, ◌++◌, append_assoc}
use lib.Dec.{leb, ltb, eqb}
use lib.ListN.{length, get_or, drop, length-append}
use lib.Seq.{ext_get_or, take_at, drop_at, drop-append-le}
use borrow.Author.Tests.{lt-ltb, le-ltb, le-leb, lt-leb, leb-true, leb-false, eq-eqb, ne_eqb, eqb-true, eqb-false}
use Rattle.laws.specs.Refusals.{type_not_known, too_short}
use Rattle.laws.specs.Limits.{AllBytes}
use Rattle.laws.specs.Tab.{tab}
use Rattle.laws.proofs.Tab.{length-tab, get_d_tab, tab_ext}
use Rattle.kinds.specs.Types.{extent_of}
use Rattle.std.specs.Prelude.{Some, None, Ok, Err}
use Rattle.shape.specs.Limits.{room, not_heard}
use Rattle.places.specs.Places.{places, cell_place, cell_asked, cell_row}
use Rattle.shape.specs.Layout.{size, place_at}
use Rattle.shape.specs.Head.{short, kind_in}
use Rattle.questions.specs.Question.{Reply, cell, memory_row, answering, value, refusing}
use Rattle.questions.specs.Fills.{filled_to, filling, value_at, row_number, numbers_fill}
use Rattle.questions.specs.Replies.{slot_asked, answer_at, place_reply, reply_as, reply_in, reply}
use Rattle.questions.specs.Statements.{in_bytes, reply_in_bytes}
use Rattle.questions.proofs.Filling.{length-filled, filled_at}
use Rattle.questions.proofs.Replying.{not_heard_lem, heard}
use Rattle.questions.proofs.Extents.{few-cells}
use Rattle.questions.proofs.RowBytes.{length_bytes, room_bytes}
use Rattle.reads.specs.Reads.{last_start_of}
use Rattle.reads.specs.Plan.{plan_of, least_reads}
use Rattle.reads.specs.Judging.{right_plan}
use Rattle.plan.specs.Replies.{row_at, memory_in, at_module, as_entries, laid, yes_no, starts_in, right_in_bytes}
use Rattle.plan.specs.Statements.{RowIsMemory, UnknownIsNotHeard, RowOfType, Written, WrittenIsPlan, PlanInBytes, OddByteIsNoEntry, RightInBytes, OddByteIsNoPlan}
use Rattle.plan.proofs.CellRow.{row-length, row-cell}
use Rattle.reads.proofs.Fewest.{count_is_least}
use Rattle.plan.proofs.Replying.{starts_length, listed_says}

-- ---- the row is the module's
pub row_of_type : RowOfType
unfolding extent_of
row_of_type b s =
    let e = row-length b (place_at s (cell_row (kind_in b s)).start) (cell_row (kind_in b s)).count in
    record { cells = e; last = ap last_start_of e }

filled_all : (f : ℕ → ℕ) (out : List ℕ) (n : ℕ) → length out ≡ n → filled_to f out n ≡ tab n f
filled_all f out n e =
    ext_get_or 0 (filled_to f out n) (tab n f) (length-filled f out n ∙ e ∙ sym (length-tab n f)) (λ i l.
    let h : i < n = omega (arith, length-filled f out n) in
    filled_at f out n i (omega arith) h ∙ sym (get_d_tab n f i 0 h))

module _ (b : List ℕ) (s kind : ℕ) (out : List ℕ) where
  memory-filled : length out ≡ (cell_row kind).count → (reply_as b s kind memory_row out).buffer ≡ row_at b (place_at s (cell_row kind).start) (cell_row kind).count
  unfolding reply_as numbers_fill filling row_at
  memory-filled e =
      let n = (cell_row kind).count in
      rw (le-leb n (length out) (omega arith))
      (filled_all (row_number b s (cell_row kind)) out n e
      ∙ tab_ext n (row_number b s (cell_row kind)) (λ i. value_at b (place_at s (cell_row kind).start + 2 * i))
      (λ i l. ap (value_at b) (omega arith)))

pub row_is_memory : RowIsMemory
unfolding reply reply_in
row_is_memory b long a listed out e =
    let s = slot_asked b a in
    rw (le-ltb (length b) size long, lt-ltb s room listed)
    (memory-filled b s (kind_in b s) out (e ∙ row-length b (place_at s (cell_row (kind_in b s)).start) (cell_row (kind_in b s)).count))

-- a cell that the question says is not heard
heard_or_not : (b : List ℕ) (o : ℕ) → AllBytes b → (value_at b o ≡ not_heard) ↔ (answer_at b o ≡ Ok None)
heard_or_not b o bytes = (
  λ e. rw (not_heard_lem (get_or b o 0) (get_or b (o + 1) 0) (bytes o) e),
  go (eqb (value_at b o) not_heard) refl,
)
  where
    go : (t : Bool) → eqb (value_at b o) not_heard ≡ t → answer_at b o ≡ Ok None → value_at b o ≡ not_heard
    go true t e = eqb-true (value_at b o) not_heard t
    go false t e =
        let told = rw (heard (get_or b o 0) (get_or b (o + 1) 0) (eqb-false (value_at b o) not_heard t)) at e in
        absurd (let z : ◌≡◌ {A = ℕ} 0 1 = cc in omega arith)

cell-answer : (b : List ℕ) (s kind location : ℕ) (out : List ℕ) → location < (cell_row kind).count
    → (reply_as b s kind (cell location) out).answer ≡ answer_at b (place_at s (cell_row kind).start + 2 * location)
unfolding reply_as place_reply cell_asked
cell-answer b s kind location out h =
    let inside : cell_place kind location < places = omega (arith, few-cells kind) in
    let there : place_at s (cell_place kind location) ≡ place_at s (cell_row kind).start + 2 * location = omega arith in
    rw (lt-ltb location (cell_row kind).count h, lt-ltb (cell_place kind location) places inside, there)

pub unknown_is_not_heard : UnknownIsNotHeard
unfolding reply reply_in
unknown_is_not_heard b bytes long a listed location inside out =
    let s = slot_asked b a in
    let at = place_at s (cell_row (kind_in b s)).start in
    let cells = (cell_row (kind_in b s)).count in
    let h : location < cells = omega (arith, row-length b at cells) in
    rw (le-ltb (length b) size long, lt-ltb s room listed, cell-answer b s (kind_in b s) location out h, row-cell b at cells location h)
    (heard_or_not b (at + 2 * location) bytes)

-- ---- what is written
-- an answer that is a value is none of the refusals
refused_not : {A : Type 0} (n count : ℕ) → Err n ≡ Ok (Some count) → A
refused_not n count e = absurd (let z : ◌≡◌ {A = ℕ} 0 1 = cc in omega arith)

laid-written : (row out : List ℕ) (count : ℕ) → (laid as_entries row out).answer ≡ Ok (Some count) → Written row out (laid as_entries row out).buffer count
unfolding laid least_reads
laid-written row out count = go (leb (length (plan_of row)) (length out)) refl
  where
    go : (t : Bool) → leb (length (plan_of row)) (length out) ≡ t
        → (cond t (value (length (plan_of row)) (plan_of row ++ drop (length (plan_of row)) out)) (refusing too_short out)).answer ≡ Ok (Some count)
        → Written row out (cond t (value (length (plan_of row)) (plan_of row ++ drop (length (plan_of row)) out)) (refusing too_short out)).buffer count
    go true t e =
        let n : count ≡ length (plan_of row) = cc in
        record {
          least = (count_is_least row count).0 n;
          fits = omega (arith, leb-true (length (plan_of row)) (length out) t);
          plan = rw n (take_at (plan_of row) (drop (length (plan_of row)) out) (length (plan_of row)) refl);
          beyond = rw n (drop_at (plan_of row) (drop (length (plan_of row)) out) (length (plan_of row)) refl);
        }
    go false t e = refused_not too_short count e

pub written_is_plan : WrittenIsPlan
unfolding at_module
written_is_plan b a out count = go (short b) (ltb (slot_asked b a) room)
  where
    row : List ℕ
    row = memory_in b (slot_asked b a)

    go : (s l : Bool) → (cond s (refusing too_short out) (cond l (laid as_entries row out) (refusing type_not_known out))).answer ≡ Ok (Some count)
        → Written row out (cond s (refusing too_short out) (cond l (laid as_entries row out) (refusing type_not_known out))).buffer count
    go true l e = refused_not too_short count e
    go false true e = laid-written row out count e
    go false false e = refused_not type_not_known count e

-- ---- C is given the same
bytes_append : (xs ys : List ℕ) → in_bytes (xs ++ ys) ≡ in_bytes xs ++ in_bytes ys
unfolding in_bytes
bytes_append [] ys = refl
bytes_append (x ∷ xs) ys = ap (λ (l : List ℕ). x % 256 ∷ x / 256 ∷ l) (bytes_append xs ys)

bytes_drop : (n : ℕ) (xs : List ℕ) → drop (2 * n) (in_bytes xs) ≡ in_bytes (drop n xs)
unfolding in_bytes
bytes_drop zero xs = refl
bytes_drop (suc n) [] = let two : 2 * suc n ≡ suc (suc (2 * n)) = omega arith in rw two
bytes_drop (suc n) (x ∷ xs) = let two : 2 * suc n ≡ suc (suc (2 * n)) = omega arith in rw two (bytes_drop n xs)

laid_bytes_lem : (row out : List ℕ) → laid in_bytes row (in_bytes out) ≡ reply_in_bytes (laid as_entries row out)
unfolding laid least_reads
laid_bytes_lem row out =
    rw (length_bytes (plan_of row), room_bytes (length (plan_of row)) out, bytes_drop (length (plan_of row)) out, ← bytes_append (plan_of row) (drop (length (plan_of row)) out))
    (go (leb (length (plan_of row)) (length out)))
  where
    go :
        (t : Bool) →
        cond t (value (length (plan_of row)) (in_bytes (plan_of row ++ drop (length (plan_of row)) out))) (refusing too_short (in_bytes out))
        ≡ reply_in_bytes (cond t (value (length (plan_of row)) (plan_of row ++ drop (length (plan_of row)) out)) (refusing too_short out))
    go true = refl
    go false = refl

-- two calls that are refused alike, and answer alike for the module in a slot
module _ (b : List ℕ) (a : ℕ) (says says' : ℕ → Reply) (out out' : List ℕ) (f : Reply → Reply) where
  at_module_lem : ((n : ℕ) → refusing n out ≡ f (refusing n out')) → ((s : ℕ) → says s ≡ f (says' s)) → at_module b a says out ≡ f (at_module b a says' out')
  unfolding at_module
  at_module_lem r e = go (short b) (ltb (slot_asked b a) room)
    where
      go :
          (s l : Bool) →
          cond s (refusing too_short out) (cond l (says (slot_asked b a)) (refusing type_not_known out))
          ≡ f (cond s (refusing too_short out') (cond l (says' (slot_asked b a)) (refusing type_not_known out')))
      go true l = r too_short
      go false true = e (slot_asked b a)
      go false false = r type_not_known

pub plan_in_bytes : PlanInBytes
plan_in_bytes b a out = at_module_lem b a _ _ (in_bytes out) out reply_in_bytes (λ n. refl) (λ s. laid_bytes_lem (memory_in b s) out)

-- an odd byte more
abbrev with_byte : ℕ → Reply → Reply
with_byte byte r = answering r.answer (in_bytes r.buffer ++ (byte ∷ []))

laid_odd : (row out : List ℕ) (byte : ℕ) → laid in_bytes row (in_bytes out ++ (byte ∷ [])) ≡ with_byte byte (laid as_entries row out)
unfolding laid least_reads
laid_odd row out byte =
    let n = length (plan_of row) in
    rw (length_bytes (plan_of row), length-append (in_bytes out) (byte ∷ []), length_bytes out) (go (leb n (length out)) refl)
  where
    go : (t : Bool) → leb (length (plan_of row)) (length out) ≡ t
        → cond (leb (2 * length (plan_of row)) (2 * length out + 1)) (value (length (plan_of row)) (in_bytes (plan_of row) ++ drop (2 * length (plan_of row)) (in_bytes out ++ (byte ∷ [])))) (refusing too_short (in_bytes out ++ (byte ∷ [])))
        ≡ with_byte byte (cond t (value (length (plan_of row)) (plan_of row ++ drop (length (plan_of row)) out)) (refusing too_short out))
    go true e =
        let h = leb-true (length (plan_of row)) (length out) e in
        rw (
          le-leb (2 * length (plan_of row)) (2 * length out + 1) (omega arith),
          drop-append-le (2 * length (plan_of row)) (in_bytes out) (byte ∷ []) (omega (arith, length_bytes out)),
          bytes_drop (length (plan_of row)) out,
          bytes_append (plan_of row) (drop (length (plan_of row)) out),
          append_assoc,
        )
    go false e = rw (lt-leb (2 * length (plan_of row)) (2 * length out + 1) (omega (arith, leb-false (length (plan_of row)) (length out) e)))

pub odd_byte_is_no_entry : OddByteIsNoEntry
odd_byte_is_no_entry b a out byte =
    let e = at_module_lem b a _ _ (in_bytes out ++ (byte ∷ [])) out (with_byte byte) (λ n. refl) (λ s. laid_odd (memory_in b s) out byte) in
    record { answer = ap (λ (r : Reply). r.answer) e; buffer = ap (λ (r : Reply). r.buffer) e }

-- ---- a proposed plan
low_byte : (starts : List ℕ) (i : ℕ) → get_or (in_bytes starts) (2 * i) 0 ≡ get_or starts i 0 % 256
unfolding in_bytes
low_byte [] i = refl
low_byte (s ∷ starts) zero = refl
low_byte (s ∷ starts) (suc i) = let two : 2 * suc i ≡ suc (suc (2 * i)) = omega arith in rw two (low_byte starts i)

high_byte : (starts : List ℕ) (i : ℕ) → get_or (in_bytes starts) (2 * i + 1) 0 ≡ get_or starts i 0 / 256
unfolding in_bytes
high_byte [] i = refl
high_byte (s ∷ starts) zero = refl
high_byte (s ∷ starts) (suc i) = let two : 2 * suc i + 1 ≡ suc (suc (2 * i + 1)) = omega arith in rw two (high_byte starts i)

starts_back : (starts : List ℕ) → starts_in (in_bytes starts) ≡ starts
starts_back starts =
    let half : length (in_bytes starts) / 2 ≡ length starts = omega (arith, length_bytes starts) in
    ext_get_or 0 (starts_in (in_bytes starts)) starts (starts_length (in_bytes starts) ∙ half) (λ i l.
    let h : i < length (in_bytes starts) / 2 = omega (arith, starts_length (in_bytes starts)) in
    let z : 0 + 2 * i ≡ 2 * i = omega arith in
    row-cell (in_bytes starts) 0 (length (in_bytes starts) / 2) i h ∙ ap (value_at (in_bytes starts)) z
    ∙ omega (arith, low_byte starts i, high_byte starts i))

right_bytes : (row starts : List ℕ) → right_in_bytes row (in_bytes starts) ≡ right_plan row starts
right_bytes row starts = rw (eq-eqb (length (in_bytes starts) % 2) 0 (omega (arith, length_bytes starts)), starts_back starts)

-- its answer alone is given
abbrev over : List ℕ → Reply → Reply
over out r = answering r.answer out

pub right_in_bytes_lem : RightInBytes
right_in_bytes_lem b a starts =
    ap (λ (r : Reply). r.answer)
    (at_module_lem b a (λ s. answering (Ok (Some (yes_no (right_in_bytes (memory_in b s) (in_bytes starts))))) (in_bytes starts)) (λ s. answering (Ok (Some (yes_no (right_plan (memory_in b s) starts)))) starts) (in_bytes starts) starts
    (over (in_bytes starts)) (λ n. refl) (λ s. ap (λ (t : Bool). answering (Ok (Some (yes_no t))) (in_bytes starts)) (right_bytes (memory_in b s) starts)))

pub odd_byte_is_no_plan : OddByteIsNoPlan
odd_byte_is_no_plan b long a listed starts byte =
    let bytes = in_bytes starts ++ (byte ∷ []) in
    let odd : length (in_bytes starts ++ (byte ∷ [])) % 2 ≡ 1 = simp length-append (omega (arith, length_bytes starts)) in
    sym (ap (λ (r : Reply). r.answer) (listed_says b a (λ s. answering (Ok (Some (yes_no (right_in_bytes (memory_in b s) bytes)))) bytes) bytes long refl listed))
    ∙ ap (λ (t : Bool). Ok (Some (yes_no (t && right_plan (memory_in b (slot_asked b a)) (starts_in bytes))))) (ne_eqb (length bytes % 2) 0 (λ e. omega arith))
