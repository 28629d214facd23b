-- Laws of the line of a plan, and of the plan that it shows. Assumes nothing.
use Prim.Native.Nat.{ℕ, zero, suc, ◌+◌, ◌*◌, ◌/◌, ◌%◌, ◌≤◌, ◌<◌}
use native.Mathlib.Omega.{arith}
use native.Mathlib.Numerals.{add-one}
use mathlib.Core.Path.{◌≡◌, refl, sym, ap, ◌∙◌}
use mathlib.Core.List.{List, [], ◌++◌}
use lib.ListN.{length, get_or, take, drop, length-append}
use lib.Seq.{sets, take_at}
use borrow.Author.Tests.{eq-eqb, ne_eqb, le-leb, lt-leb}
use Rattle.laws.specs.Refusals.{too_short}
use Rattle.laws.proofs.Stores.{sets_front}
use Rattle.std.specs.Prelude.{Some, Result, Ok, Err}
use Rattle.laws.specs.declared.refusals.Refusal.{Refusal}
use Rattle.laws.specs.Codes.{coded}
use Rattle.shape.specs.Answers.{valued}
use Rattle.shape.specs.Limits.{room}
use Rattle.places.specs.Places.{places, cell_row}
use Rattle.shape.specs.Layout.{size, place_at}
use Rattle.shape.specs.Head.{kind_in}
use Rattle.questions.specs.Question.{Reply, value, refusing}
use Rattle.questions.specs.Replies.{slot_asked}
use Rattle.questions.proofs.Extents.{few-cells}
use Rattle.reads.specs.Reads.{block}
use Rattle.reads.specs.Plan.{plan_of, least_reads}
use Rattle.plan.specs.Replies.{memory_in, as_entries, laid, plan_reply}
use Rattle.plan.proofs.Turns.{few_reads}
use Rattle.plan.proofs.Replying.{listed_says, laid_done}
use Rattle.texts.specs.Text.{Fits, Written, letters, in_hex}
use Rattle.texts.specs.Lines.{numbered}
use Rattle.texts.specs.Plans.{start_text, starts_text, reads_line, plan_line, plan_room, lined}
use Rattle.texts.proofs.Texts.{room_rest, digits-length}

-- ---- the starts
pub starts_none : (starts : List ℕ) → starts_text starts 0 ≡ []
unfolding starts_text
starts_none starts = refl

pub starts_more : (starts : List ℕ) (i : ℕ) → starts_text starts (i + 1) ≡ starts_text starts i ++ start_text (get_or starts i 0)
unfolding starts_text
starts_more starts i = ap (starts_text starts) (add-one i)

starts_length : (starts : List ℕ) (n : ℕ) → length (starts_text starts n) ≡ 5 * n
unfolding starts_text
starts_length starts zero = refl
starts_length starts (suc n) = omega (arith, starts_length starts n, length-append (starts_text starts n) (start_text (get_or starts n 0)))

-- the room of the next start
pub start_room : (starts : List ℕ) {l o : List ℕ} {at r : ℕ} (i : ℕ) → i < length starts → Written l at (starts_text starts i) o r → Fits l at (starts_text starts (length starts))
    → Fits o r (start_text (get_or starts i 0))
start_room starts i h w f =
    room_rest w
    (record { room = omega (arith, f.room, length-append (starts_text starts i) (start_text (get_or starts i 0)), starts_length starts i, starts_length starts (length starts)) })

-- ---- the line
pub no_reads : (address : ℕ) (starts : List ℕ) → length starts ≡ 0 → plan_line address starts ≡ in_hex address ++ letters " nothing to read\n"
unfolding plan_line
no_reads address starts e = rw (eq-eqb (length starts) 0 e)

pub some_reads : (address : ℕ) (starts : List ℕ) → (length starts ≡ 0 → ⊥) → plan_line address starts ≡ reads_line address starts
unfolding plan_line
some_reads address starts e = rw (ne_eqb (length starts) 0 e)

reads_short : (address : ℕ) (starts : List ℕ) → length (reads_line address starts) ≤ 24 + 5 * length starts
unfolding reads_line
reads_short address starts =
    omega (
      arith,
      starts_length starts (length starts),
      digits-length 20 (length starts),
      length-append ((in_hex address ++ numbered (letters " ") (length starts)) ++ starts_text starts (length starts)) (letters "\n"),
      length-append (in_hex address ++ numbered (letters " ") (length starts)) (starts_text starts (length starts)),
      length-append (in_hex address) (numbered (letters " ") (length starts)),
    )

pub line-short : (address : ℕ) (starts : List ℕ) → length starts ≤ places / block → length (plan_line address starts) ≤ plan_room
line-short address starts h = go (length starts) refl
  where
    go : (n : ℕ) → length starts ≡ n → length (plan_line address starts) ≤ plan_room
    go zero e = rw (no_reads address starts e) (omega arith)
    go (suc n) e = rw (some_reads address starts (λ z. omega arith)) (omega (arith, reads_short address starts))

-- ---- the plan, into a list that always holds it
module _ (b : List ℕ) (a s : ℕ) (starts : List ℕ) (long : size ≤ length b) (h : s < room) (d : s ≡ slot_asked b a) (enough : length starts ≡ places / block) where
  abbrev row : List ℕ
  row = memory_in b s

  plan-fits : length (plan_of row) ≤ length starts
  unfolding least_reads
  plan-fits = omega (arith, few-cells (kind_in b s), few_reads b (place_at s (cell_row (kind_in b s)).start) (cell_row (kind_in b s)).count)

  plan_is : value (least_reads row) (plan_of row ++ drop (length (plan_of row)) starts) ≡ plan_reply b a starts
  plan_is = laid_done as_entries row starts plan-fits refl refl ∙ listed_says b a (λ s. laid as_entries (memory_in b s) starts) starts long d h

  -- the call gives the plan
  pub planned_so : {answer : Result ℕ Refusal} {after : List ℕ} → valued (coded answer) ≡ (plan_reply b a starts).answer → after ≡ (plan_reply b a starts).buffer
      → (answer ≡ Ok (length (plan_of row))) × (length (plan_of row) ≤ places / block) × (take (length (plan_of row)) after ≡ plan_of row)
  unfolding least_reads
  planned_so {answer} {after} p q =
      let x : after ≡ plan_of row ++ drop (length (plan_of row)) starts = q ∙ sym (ap (λ (r : Reply). r.buffer) plan_is) in
      (go answer (p ∙ sym (ap (λ (r : Reply). r.answer) plan_is)), omega (arith, plan-fits), rw x (take_at (plan_of row) (drop (length (plan_of row)) starts) (length (plan_of row)) refl))
    where
      go : (r : Result ℕ Refusal) → valued (coded r) ≡ Ok (Some (length (plan_of row))) → r ≡ Ok (length (plan_of row))
      go (Ok n) e = cc
      go (Err n) e = cc

-- ---- the line at a buffer's front
module _ (address : ℕ) (row out : List ℕ) where
  pub line-short-room : length out < plan_room → refusing too_short out ≡ lined address row out
  unfolding lined
  line-short-room h = rw (lt-leb plan_room (length out) h)

  pub line-done : {starts after : List ℕ} {n : ℕ} → plan_room ≤ length out → starts ≡ plan_of row → length (plan_of row) ≤ places / block
      → Written out 0 (plan_line (address % 256) starts) after n → value n after ≡ lined address row out
  unfolding lined
  line-done {starts} {after} {n} h e few w =
      let t : List ℕ = plan_line (address % 256) (plan_of row) in
      let s : after ≡ sets out 0 t = rw e at w.stored in
      let x : after ≡ t ++ drop (length t) out = s ∙ sets_front out t (omega (arith, line-short (address % 256) (plan_of row) few)) in
      let m : n ≡ length t = omega (arith, rw e at w.past) in
      rw (le-leb plan_room (length out) h, ← x, ← m)

pub line-fits : (address : ℕ) (starts out : List ℕ) → length starts ≤ places / block → plan_room ≤ length out → Fits out 0 (plan_line address starts)
line-fits address starts out few h = record { room = omega (arith, line-short address starts few) }
