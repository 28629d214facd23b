-- What an arm knows, turned into the command's number and bytes.
--     Arm                        a command's row in the lists of the modules that have it
--     near, far                  a location that the type has, and one that it has not
--     refusing                   a number that is not 0, and the bytes as they were
--     misfitted, at_fault        the arm's refusals: by the form, by the fields
--     not_there                  a module that does not list the command
--     told, passed               what the arm tells
--     by_field                   the same and at_fault in one, of an arm that tells where no field is at fault
-- Assumes nothing.
use Rattle.std.proofs.Common.{◌≡◌, ℕ, ◌+◌, ◌/◌, ◌<◌, ◌≤◌, Bool, true, false, cond, not, ◌&&◌, eqb, leb, List, length, sym, refl, ◌∙◌, arith, lit<, le-ltb, lt-ltb, eq-eqb, ne_eqb, eqb-true, le-leb, leb-true}
use borrow.Author.Tests.{eqb-false, not-true, not-false}
use Rattle.laws.specs.Refusals.{not_listed, wrong_length, wrong_priority}
use Rattle.laws.specs.Tests.{unless}
use Rattle.laws.proofs.Testing.{not_both, and_both, held}
use Rattle.frame.specs.Bytes.{byte, data_of}
use Rattle.frame.specs.Messages.{type_command, decode}
use Rattle.frame.specs.declared.messages.Location.{Location}
use Rattle.fields.specs.Fields.{location_fault, fault, field_refusal}
use Rattle.fields.proofs.Codes.{untold}
use Rattle.judging.proofs.Numbers.{behind}
use Rattle.places.specs.Places.{places}
use Rattle.places.specs.Runs.{Run, no_run, run_in, meaning_of}
use Rattle.shape.specs.Limits.{room}
use Rattle.shape.specs.Layout.{size}
use Rattle.changes.specs.Telling.{is_empty, naming, told_in, passed_in}
use Rattle.changes.proofs.Told.{told_in_lem}
use Rattle.commands.specs.Commands.{named_by, command_number, command_bytes}
use Rattle.commands.specs.Arms.{Ready, Heard}
use Rattle.commands.proofs.Rows.{Rowed, row_of, row-none}

-- the command k, of n bytes at the priority p in the lists of some modules
pub record Arm (has : ℕ → Bool) (k n p : ℕ) : Type 0 where
  pub some_bytes : eqb n 0 ≡ false
  pub no_type : eqb k type_command ≡ false
  pub rows : Rowed has k n p

-- ---- a location, up to the last that is allowed and behind it
module _ (last : ℕ) (l : Location) where
  pub near : l.0 ≤ last → field_refusal (location_fault last l) ≡ 0
  near h = rw (le-leb (l.0 / 256) (last / 256) (omega arith), le-leb l.0 last h)

  pub far : last < l.0 → {r : ℕ} → r ≡ field_refusal (location_fault last l) → r ≡ 0 → ⊥
  far h e z = let g = held (leb (l.0 / 256) (last / 256)) 2 (unless (leb l.0 last) 3 0) (lit< tt) (untold (location_fault last l) (sym e ∙ z)) in
      let k = held (leb l.0 last) 3 0 (lit< tt) g.1 in
      omega (arith, leb-true l.0 last k.0)

-- ---- a frame and its arm
-- the form fails: by its length, or else by its priority
one_fails : (a b : Bool) (later : ℕ) {r : ℕ} → r ≡ unless a wrong_length (unless b wrong_priority 0) → (r ≡ 0 → ⊥) → r ≡ unless a wrong_length (unless b wrong_priority later)
one_fails true true later e some = absurd (some e)
one_fails true false later e some = e
one_fails false b later e some = e

-- or holds, by both
both_hold : (a b : Bool) → 0 ≡ unless a wrong_length (unless b wrong_priority 0) → (a ≡ true) × (b ≡ true)
both_hold true true e = (refl, refl)
both_hold true false e = absurd (omega arith)
both_hold false b e = absurd (omega arith)

module _ {b : List ℕ} {slot kind priority : ℕ} {s : List ℕ} where
  pub refusing : {n : ℕ} {b' : List ℕ} → n ≡ command_number b slot kind priority s → (n ≡ 0 → ⊥) → b' ≡ b → Heard b slot kind priority s n b'
  unfolding command_bytes
  refusing {n} e h q = record { number = e; bytes_after = rw (← e, ne_eqb n 0 h) q }

  hearing : {n : ℕ} {b' : List ℕ} → n ≡ command_number b slot kind priority s → n ≡ 0 → b' ≡ naming b slot (named_by kind s) → Heard b slot kind priority s n b'
  unfolding command_bytes
  hearing {n} e h q = record { number = e; bytes_after = rw (← e, eq-eqb n 0 h) q }

module _
    {has : ℕ → Bool} {k n p : ℕ} (arm : Arm has k n p) {b : List ℕ} {slot kind : ℕ} (priority : ℕ) (s : List ℕ) (ready : Ready b slot kind) (first : byte 1 s ≡ k)
  where
    abbrev pub field : ℕ
    field = field_refusal (fault kind (decode (behind k (data_of s))))

    abbrev pub run_here : Run
    run_here = run_in (meaning_of kind (decode (behind k (data_of s))))

    run_here_lem : named_by kind s ≡ run_here
    run_here_lem = rw first

    pub not_there : has kind ≡ false → {b' : List ℕ} → b' ≡ b → Heard b slot kind priority s not_listed b'
    unfolding command_number
    not_there h q = refusing (rw (le-ltb (length b) size ready.whole, lt-ltb slot room ready.within, first, arm.no_type, row-none has k n p arm.rows kind ready.module_type h)) (λ z. omega arith) q

    module _ (here : has kind ≡ true) where
      number : unless (eqb (length s) n) wrong_length (unless (eqb priority p) wrong_priority field) ≡ command_number b slot kind priority s
      unfolding command_number
      number =
          let row = row_of has k n p arm.rows kind ready.module_type here in
          rw (le-ltb (length b) size ready.whole, lt-ltb slot room ready.within, first, arm.no_type, row.0, row.1, arm.some_bytes)

      abbrev pub form : ℕ
      form = unless (eqb (length s) n) wrong_length (unless (eqb priority p) wrong_priority 0)

      pub misfitted : {r : ℕ} {b' : List ℕ} → r ≡ form → (r ≡ 0 → ⊥) → b' ≡ b → Heard b slot kind priority s r b'
      misfitted e some w = refusing (one_fails (eqb (length s) n) (eqb priority p) field e some ∙ number) some w

      module _ (formed : 0 ≡ form) where
        field-number : field ≡ command_number b slot kind priority s
        field-number = let g = both_hold (eqb (length s) n) (eqb priority p) formed in rw (g.0, g.1) at number

        pub at_fault : {r : ℕ} {b' : List ℕ} → r ≡ field → (r ≡ 0 → ⊥) → b' ≡ b → Heard b slot kind priority s r b'
        at_fault e h q = refusing (e ∙ field-number) h q

        pub told :
            (r : Run) → r ≡ run_here → {v : ℕ} → v ≡ field → v ≡ 0 → is_empty r.says ≡ false → r.start + length r.says ≤ places → {b' : List ℕ} → b' ≡ told_in b slot r
            → Heard b slot kind priority s 0 b'
        unfolding naming
        told r is v z some fits q = hearing (sym z ∙ v ∙ field-number) refl (rw (run_here_lem, ← is, lt-ltb slot room ready.within, some, ← told_in_lem b slot r ready.whole ready.within fits) q)

        pub passed : no_run ≡ run_here → {v : ℕ} → v ≡ field → v ≡ 0 → {b' : List ℕ} → b' ≡ passed_in b → Heard b slot kind priority s 0 b'
        unfolding naming passed_in
        passed is v z q = hearing (sym z ∙ v ∙ field-number) refl (rw (run_here_lem, ← is, lt-ltb slot room ready.within) (rw (le-ltb (length b) size ready.whole) at q))

        pub by_field :
            (r : Run) → r ≡ run_here → is_empty r.says ≡ false → r.start + length r.says ≤ places → {v : ℕ} {b' : List ℕ} → v ≡ field → b' ≡ cond (eqb field 0) (told_in b slot r) b
            → Heard b slot kind priority s v b'
        by_field r is some fits {v} {b'} e q = go (eqb field 0) (eqb-true field 0) (eqb-false field 0) q
          where
            go : (t : Bool) → (t ≡ true → field ≡ 0) → (t ≡ false → field ≡ 0 → ⊥) → b' ≡ cond t (told_in b slot r) b → Heard b slot kind priority s v b'
            go true z n q = let h : v ≡ 0 = e ∙ z refl in rw h (told r is e h some fits q)
            go false z n q = at_fault e (λ h. n refl (sym e ∙ h)) q
