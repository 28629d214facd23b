-- A command heard at a listed address, by the number that `hear_command` gave; and the number of a hearing, which is its whole outcome.
--     command_heard, command-refused     the command's number is 0, and is not
--     outcome_is                         a refusal never has the number 0
-- Assumes nothing.
use Rattle.std.specs.Prelude.{Result, Ok, Err}
use Prim.Native.Nat.{ℕ, ◌≤◌, ◌<◌}
use native.Mathlib.Omega.{arith}
use mathlib.Core.Path.{◌≡◌, refl, sym, ap, ◌∙◌}
use mathlib.Core.Bool.{Bool, true, false, cond, not}
use mathlib.Core.List.{List}
use lib.Dec.{eqb, ltb}
use lib.ListN.{length}
use borrow.Author.Tests.{eqb-true, eqb-false, eq-eqb, ne_eqb, lt-ltb, le-ltb}
use Rattle.laws.specs.Codes.{code_of, coded, code_in}
use Rattle.laws.specs.declared.refusals.Refusal.{Refusal}
use Rattle.laws.proofs.Codes.{some_code}
use Rattle.laws.specs.Refusals.{bad_type, type_not_known, not_listed, no_room, too_short}
use Rattle.laws.specs.Answers.{refusal_in}
use Rattle.laws.specs.Tests.{among, unless}
use Rattle.laws.proofs.Testing.{nonzero}
use Rattle.kinds.specs.Types.{no_type, module_types, handed_types}
use Rattle.kinds.proofs.Listed.{listed_module, module_some, module_handed}
use Rattle.frame.specs.Identifiers.{priority_of}
use Rattle.frame.specs.Bytes.{byte, data_of}
use Rattle.frame.specs.Messages.{type_command}
use Rattle.judging.specs.Reading.{frame_refusal, row_refusal, command_refusal, reading, reading_number}
use Rattle.judging.proofs.Numbers.{command-number}
use Rattle.judging.proofs.Judged.{row_held}
use Rattle.judging.proofs.Faults.{of_no_type, by-handed}
use Rattle.places.specs.Runs.{Run, command_of, meaning_of}
use Rattle.shape.specs.Answers.{outcome_numbers, Outcome}
use Rattle.shape.specs.Limits.{room, bus_address}
use Rattle.shape.specs.Layout.{size}
use Rattle.shape.specs.Result.{refusing, done}
use Rattle.shape.specs.Head.{short, modules_of, slot_of, kind_in}
use Rattle.commands.specs.Commands.{command_number, command_bytes}
use Rattle.picture.specs.Hearing.{entering, hearing_as, hearing_at, hearing, number_of}
use Rattle.picture.proofs.Meant.{not_type, names_run, type_by, type_told_lem}
use Rattle.picture.proofs.Heard.{refused, requested, told, type_fits_lem}
use Rattle.picture.proofs.Frames.{Heard, as_refused, bad_refused, framed}

all-passed : (t u v : Bool) (x : ℕ) → t ≡ true → u ≡ true → v ≡ true → unless t too_short (unless u type_not_known (unless v not_listed x)) ≡ x
all-passed t u v x p q r = rw (p, q, r)

module _ (b : List ℕ) (slot identifier remote : ℕ) (s : List ℕ) (kind : ℕ) (k : kind ≡ kind_in b slot)
    (passed : frame_refusal no_type identifier remote (length s) ≡ 0) (q : remote ≡ 1 → ⊥) (c : ℕ) (first : c ≡ byte 1 s) (other : c ≡ type_command → ⊥)
    (long : size ≤ length b) (listed : slot < room)
    (n : ℕ) (e : n ≡ command_number b slot kind (priority_of identifier) s) (x : List ℕ) (t : x ≡ command_bytes b slot kind (priority_of identifier) s) where
  abbrev row : ℕ
  row = row_refusal kind (priority_of identifier) (data_of s) (command_of s)

  by_row_lem : n ≡ row
  unfolding command_number
  by_row_lem =
      let others : not (eqb (byte 1 s) type_command) ≡ true = ap not (ne_eqb (byte 1 s) type_command (λ h. other (first ∙ h))) in
      e ∙ all-passed (not (short b)) (ltb slot room) (not (eqb (byte 1 s) type_command)) row (ap not (le-ltb (length b) size long)) (lt-ltb slot room listed) others

  number_at : among kind handed_types ≡ true → (m : ℕ) → m ≡ command_refusal kind (priority_of identifier) (data_of s) (command_of s) → m ≡ reading_number (reading kind identifier remote s)
  number_at h m f = command-number kind identifier remote s (framed b slot identifier remote s kind k passed h) refl q f

  is_module : n ≡ 0 → among kind module_types ≡ true
  is_module z = listed_module kind (byte 1 s) (row_held kind (priority_of identifier) (data_of s) (command_of s) (sym by_row_lem ∙ z)).listed

  pub command_heard : n ≡ 0 → Heard 0 x (hearing_at b slot identifier remote s)
  unfolding hearing_as command_bytes
  command_heard z =
      let m = is_module z in
      let zero : 0 ≡ command_refusal kind (priority_of identifier) (data_of s) (command_of s) = by-handed kind (priority_of identifier) (data_of s) (command_of s) first other (nonzero kind (module_some kind m)) (sym z ∙ by_row_lem) in
      let here = told b slot identifier remote s k (number_at (module_handed kind m) 0 zero) refl q in
      let run = names_run kind s (rw (← first) (not_type c other)) in
      (rw (here, run), rw (here, run) (t ∙ rw (← e, z)))

  pub command-refused : (n ≡ 0 → ⊥) → Heard (unless (among kind handed_types) bad_type (unless (not (eqb kind no_type)) type_not_known n)) x (hearing_at b slot identifier remote s)
  unfolding command_bytes
  command-refused z = let same : x ≡ b = t ∙ rw (← e, ne_eqb n 0 z) in go (among kind handed_types) (eqb kind no_type) refl refl same
    where
      go : (h o : Bool) → among kind handed_types ≡ h → eqb kind no_type ≡ o → x ≡ b → Heard (unless h bad_type (unless (not o) type_not_known n)) x (hearing_at b slot identifier remote s)
      go false o h w same = let r = bad_refused b slot identifier remote s kind k h in (r.0, same ∙ r.1)
      go true true h w same =
          let f = of_no_type kind (priority_of identifier) (data_of s) (command_of s) first other (eqb-true kind no_type w) in
          let r = as_refused b slot identifier remote s kind k type_not_known (number_at h type_not_known f) (λ y. omega arith) in
          (r.0, same ∙ r.1)
      go true false h w same =
          let f = by-handed kind (priority_of identifier) (data_of s) (command_of s) first other (eqb-false kind no_type w) by_row_lem in
          let r = as_refused b slot identifier remote s kind k n (number_at h n f) z in
          (r.0, same ∙ r.1)

-- ---- a refusal never has the number 0
abbrev Numbered : Outcome → Type 0
Numbered o = (m : ℕ) → o ≡ Err m → m ≡ 0 → ⊥

entry_some : (b : List ℕ) (slot a kind entered : ℕ) (r : Run) → Numbered (entering b slot a kind entered r).outcome
unfolding entering
entry_some b slot a kind entered r = go (ltb slot room) (ltb (modules_of b) room) _ _
  where
    go : (t u : Bool) (x y : List ℕ) → Numbered (cond t (done x) (cond u (done y) (refusing no_room b))).outcome
    go true u x y = λ m e z. let y : ◌≡◌ {A = ℕ} 0 1 = cc in omega arith
    go false true x y = λ m e z. let y : ◌≡◌ {A = ℕ} 0 1 = cc in omega arith
    go false false x y = λ m e z. let y : 10 ≡ m = cc in omega arith

-- where no module can enter, a frame that is heard is done
module _ (b : List ℕ) (slot identifier remote : ℕ) (s : List ℕ) where
  abbrev kind_at : ℕ
  kind_at = kind_in b slot

  abbrev number : ℕ
  number = reading_number (reading kind_at identifier remote s)

  data_some : number ≡ 0 → (remote ≡ 1 → ⊥) → Numbered (hearing_at b slot identifier remote s).outcome
  unfolding hearing_as
  data_some z q = go (eqb (byte 1 s) type_command) (eqb-true (byte 1 s) type_command) (eqb-false (byte 1 s) type_command)
    where
      here : hearing_at b slot identifier remote s ≡ hearing_as b slot (bus_address identifier) kind_at (meaning_of kind_at (command_of s))
      here = told b slot identifier remote s refl refl z q

      go : (t : Bool) → (t ≡ true → byte 1 s ≡ type_command) → (t ≡ false → byte 1 s ≡ type_command → ⊥) → Numbered (hearing_at b slot identifier remote s).outcome
      go true ff nf =
          let fit = type_fits_lem b slot identifier remote s refl refl z q (ff refl) in
          rw (here, type_by s refl (ff refl), type_told_lem kind_at s fit.0 fit.1) (entry_some b slot (bus_address identifier) kind_at (byte 2 s) _)
      go false ff nf = rw (here, names_run kind_at s (not_type (byte 1 s) (nf refl))) (λ m e y. let w : ◌≡◌ {A = ℕ} 0 1 = cc in omega arith)

  at_some : Numbered (hearing_at b slot identifier remote s).outcome
  at_some = go (eqb number 0) (eqb remote 1) (eqb-true number 0) (eqb-false number 0) (eqb-true remote 1) (eqb-false remote 1)
    where
      go :
          (t u : Bool) → (t ≡ true → number ≡ 0) → (t ≡ false → number ≡ 0 → ⊥) → (u ≡ true → remote ≡ 1) → (u ≡ false → remote ≡ 1 → ⊥)
          → Numbered (hearing_at b slot identifier remote s).outcome
      go false u z n q r = rw (refused b slot identifier remote s refl refl (n refl)) (λ m e y. n refl (let w : number ≡ m = cc in w ∙ y))
      go true true z n q r = rw (requested b slot identifier remote s refl refl (z refl) (q refl)) (λ m e y. let w : ◌≡◌ {A = ℕ} 0 1 = cc in omega arith)
      go true false z n q r = data_some (z refl) (r refl)

heard_some : (b : List ℕ) (identifier remote : ℕ) (s : List ℕ) → Numbered (hearing b identifier remote s).outcome
unfolding hearing
heard_some b identifier remote s = go (short b)
  where
    go : (t : Bool) → Numbered (cond t (refusing too_short b) (hearing_at b (slot_of b (bus_address identifier)) identifier remote s)).outcome
    go true = λ m e z. let y : 13 ≡ m = cc in omega arith
    go false = at_some b (slot_of b (bus_address identifier)) identifier remote s

-- done, or refused for the number
abbrev outcome_by : ℕ → Outcome
outcome_by n = cond (eqb n 0) (Ok tt) (Err n)

decided : (o : Outcome) → Numbered o → outcome_by (refusal_in (outcome_numbers o)) ≡ o
decided (Ok tt) h = refl
decided (Err n) h = rw (ne_eqb n 0 (h n refl))

outcome_decided : (b : List ℕ) (identifier remote : ℕ) (s : List ℕ) {n : ℕ} → n ≡ number_of (hearing b identifier remote s) → outcome_by n ≡ (hearing b identifier remote s).outcome
outcome_decided b identifier remote s e = rw e (decided (hearing b identifier remote s).outcome (heard_some b identifier remote s))

pub outcome_is : (b : List ℕ) (identifier remote : ℕ) (s : List ℕ) (r : Result (Unit {0}) Refusal) → code_in r ≡ number_of (hearing b identifier remote s) → coded r ≡ (hearing b identifier remote s).outcome
outcome_is b identifier remote s (Ok done) e = outcome_decided b identifier remote s e
outcome_is b identifier remote s (Err refusal) e = sym (refused_by (code_of refusal) (some_code refusal)) ∙ outcome_decided b identifier remote s e
  where
    refused_by : (n : ℕ) → (n ≡ 0 → ⊥) → outcome_by n ≡ Err n
    refused_by n some = rw (ne_eqb n 0 some)
