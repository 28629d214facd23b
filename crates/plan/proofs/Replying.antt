-- Laws of the replies that several proofs cite. Assumes nothing.
use Prim.Native.Nat.{ℕ, ◌+◌, ◌*◌, ◌/◌, ◌%◌, ◌≤◌, ◌<◌}
use native.Mathlib.Omega.{arith}
use mathlib.Core.Path.{◌≡◌, refl, sym, ◌∙◌}
use mathlib.Core.Bool.{Bool, true, false}
use mathlib.Core.List.{List, ◌++◌}
use lib.Dec.{leb}
use lib.ListN.{length, drop}
use borrow.Author.Tests.{lt-ltb, le-ltb, le-leb, lt-leb, leb-true, leb-false, eq-eqb, ne_eqb}
use Rattle.std.specs.Prelude.{Some, Result, Ok, Err}
use Rattle.laws.specs.declared.refusals.Refusal.{Refusal}
use Rattle.laws.specs.Codes.{code_of, coded}
use Rattle.laws.specs.Refusals.{too_short}
use Rattle.shape.specs.Limits.{room}
use Rattle.places.specs.Places.{places, cell_row}
use Rattle.shape.specs.Layout.{size, place_at}
use Rattle.shape.specs.Head.{kind_in}
use Rattle.questions.specs.Question.{Reply, value, refusing}
use Rattle.questions.specs.Replies.{slot_asked, module_asked}
use Rattle.questions.specs.Statements.{in_bytes}
use Rattle.questions.proofs.Replying.{refused_call, found_call}
use Rattle.questions.proofs.Extents.{few-cells}
use Rattle.questions.proofs.RowBytes.{length_bytes}
use Rattle.reads.specs.Reads.{block}
use Rattle.reads.specs.Plan.{plan_of, least_reads}
use Rattle.reads.specs.Judging.{right_plan}
use Rattle.plan.specs.Replies.{row_at, memory_in, at_module, laid, yes_no, judged, starts_in, right_in_bytes}
use Rattle.plan.proofs.CellRow.{row-length}
use Rattle.reads.proofs.Judging.{wrong_count}
use Rattle.plan.proofs.Turns.{few_reads}

-- ---- a call on the module at an address
module _ (b : List ℕ) (a : ℕ) (says : ℕ → Reply) (out : List ℕ) {r : Result ℕ Refusal} (asked : coded r ≡ module_asked b a) where
  pub refused_before : {e : Refusal} → r ≡ Err e → refusing (code_of e) out ≡ at_module b a says out
  unfolding at_module
  refused_before is = refused_call b a says out asked is

  pub found_says : {s : ℕ} → r ≡ Ok s → says s ≡ at_module b a says out
  unfolding at_module
  found_says is = found_call b a says out asked is

-- a listed module
pub listed_says : (b : List ℕ) (a : ℕ) (says : ℕ → Reply) (out : List ℕ) {s : ℕ} → size ≤ length b → s ≡ slot_asked b a → s < room → says s ≡ at_module b a says out
unfolding at_module
listed_says b a says out {s} long d h = rw (le-ltb (length b) size long, ← d, lt-ltb s room h)

-- ---- the memory of the module in a slot
-- it lies in the picture
pub memory_inside : (b : List ℕ) (s : ℕ) {at cells : ℕ} → size ≤ length b → s < room → at ≡ place_at s (cell_row (kind_in b s)).start → cells ≡ (cell_row (kind_in b s)).count
    → (at + 2 * cells ≤ length b) × (cells < 65536)
memory_inside b s long h p q = (omega (arith, few-cells (kind_in b s)), omega (arith, few-cells (kind_in b s)))

pub memory_row : (b : List ℕ) (s : ℕ) {at cells : ℕ} → at ≡ place_at s (cell_row (kind_in b s)).start → cells ≡ (cell_row (kind_in b s)).count → row_at b at cells ≡ memory_in b s
memory_row b s p q = rw (p, q)

-- ---- the plan laid out
module _ (lay : List ℕ → List ℕ) (row out : List ℕ) where
  pub laid_done : {n : ℕ} {after : List ℕ} → length (lay (plan_of row)) ≤ length out → n ≡ least_reads row
      → after ≡ lay (plan_of row) ++ drop (length (lay (plan_of row))) out → value n after ≡ laid lay row out
  unfolding laid
  laid_done h p q = rw (le-leb (length (lay (plan_of row))) (length out) h, p, q)

  pub laid-short : length out < length (lay (plan_of row)) → refusing too_short out ≡ laid lay row out
  unfolding laid
  laid-short h = rw (lt-leb (length (lay (plan_of row))) (length out) h)

-- whether it fits, as entries and as bytes
module _ (row : List ℕ) (entries : ℕ) {r : Bool} (e : r ≡ leb (least_reads row) entries) where
  pub entries-room : r ≡ true → least_reads row ≤ entries
  entries-room t = leb-true (least_reads row) entries (sym e ∙ t)

  pub entries_fit : r ≡ true → length (plan_of row) ≤ entries
  unfolding least_reads
  entries_fit t = leb-true (least_reads row) entries (sym e ∙ t)

  pub entries-short : r ≡ false → entries < length (plan_of row)
  unfolding least_reads
  entries-short t = leb-false (least_reads row) entries (sym e ∙ t)

module _ (row out : List ℕ) {r : Bool} (e : r ≡ leb (least_reads row) (length out / 2)) where
  pub bytes_fit : r ≡ true → length (in_bytes (plan_of row)) ≤ length out
  bytes_fit t = omega (arith, length_bytes (plan_of row), entries_fit row (length out / 2) e t)

  pub bytes_room : r ≡ true → 2 * least_reads row ≤ length out
  unfolding least_reads
  bytes_room t = omega (arith, entries_fit row (length out / 2) e t)

  pub bytes_short : r ≡ false → length out < length (in_bytes (plan_of row))
  bytes_short t = omega (arith, length_bytes (plan_of row), entries-short row (length out / 2) e t)

-- ---- a proposed plan: yes is 1, and no is 0
pub judged_says : (answer : Bool) → judged (Ok answer) ≡ Ok (Some (yes_no answer))
judged_says true = refl
judged_says false = refl

-- in bytes
pub starts_length : (bytes : List ℕ) → length (starts_in bytes) ≡ length bytes / 2
starts_length bytes = row-length bytes 0 (length bytes / 2)

pub odd_wrong : (row bytes : List ℕ) → (length bytes % 2 ≡ 0 → ⊥) → false ≡ right_in_bytes row bytes
odd_wrong row bytes h = rw (ne_eqb (length bytes % 2) 0 h)

pub too_many : (b : List ℕ) (s : ℕ) (bytes : List ℕ) → length bytes % 2 ≡ 0 → places / block < length bytes / 2 → false ≡ right_in_bytes (memory_in b s) bytes
too_many b s bytes even h =
    rw (eq-eqb (length bytes % 2) 0 even)
    (wrong_count (memory_in b s) (starts_in bytes) refl (λ e.
    omega (arith, e, starts_length bytes, few-cells (kind_in b s), few_reads b (place_at s (cell_row (kind_in b s)).start) (cell_row (kind_in b s)).count)))

pub even_right : (row bytes : List ℕ) {r : Bool} {starts : List ℕ} → length bytes % 2 ≡ 0 → starts ≡ starts_in bytes → r ≡ right_plan row starts → r ≡ right_in_bytes row bytes
even_right row bytes even p q = rw (eq-eqb (length bytes % 2) 0 even, ← p) q
