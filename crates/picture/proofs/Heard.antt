-- A frame heard, by the number of its refusal.
--     refused            a number that is not 0 is the refusal's, and the bytes stay
--     requested          number 0 and a remote frame: no place is named
--     told               number 0 and a frame with data: what its command means is heard
--     type_fits_lem          a type frame that is heard has its type's length
--     newcomer_types     at an address with no type a command that is heard is the type frame
--     slot-none          an address that has no module's slot has none
-- Assumes nothing.
use Rattle.std.specs.Prelude.{Ok}
use Prim.Native.Nat.{ℕ, ◌<◌, ◌≤◌}
use native.Mathlib.Omega.{arith}
use mathlib.Core.Path.{◌≡◌, refl, sym, ◌∙◌}
use mathlib.Core.Bool.{Bool, true, false, cond, ◌&&◌}
use mathlib.Core.List.{List}
use lib.Dec.{eqb, ltb}
use lib.ListN.{get_or, length}
use borrow.Author.Tests.{eqb-true, eq-eqb, ne_eqb, ltb-true}
use Rattle.kinds.specs.Types.{no_type, row_for, is_listed}
use Rattle.kinds.proofs.Listed.{listed_module}
use Rattle.frame.specs.Identifiers.{address_of}
use Rattle.frame.specs.Bytes.{byte, data_of}
use Rattle.frame.specs.Messages.{type_command}
use Rattle.frame.specs.declared.messages.Message.TheVariants.{Tells}
use Rattle.frame.proofs.Commands.{type_sized}
use Rattle.judging.specs.Reading.{reading, reading_number}
use Rattle.judging.proofs.Numbers.{refused_as, accepted_as}
use Rattle.places.specs.Runs.{no_run, meaning_of, meant, read_as, command_of}
use Rattle.places.proofs.Fitting.{Accepted, read_accepted}
use Rattle.shape.specs.Limits.{room, bus_address}
use Rattle.shape.specs.Result.{refusing, done}
use Rattle.shape.specs.Layout.{slot_at, record_at}
use Rattle.shape.specs.Head.{modules_of, no_slot, believed, slot_of, kind_in}
use Rattle.changes.specs.Telling.{naming}
use Rattle.picture.specs.Hearing.{hearing_as, hearing_at}

module _ (b : List ℕ) (slot identifier remote : ℕ) (s : List ℕ) {kind n : ℕ} (k : kind ≡ kind_in b slot) (e : n ≡ reading_number (reading kind identifier remote s)) where
  pub refused : (n ≡ 0 → ⊥) → hearing_at b slot identifier remote s ≡ refusing n b
  unfolding hearing_at hearing_as read_as
  refused h = rw (← k, ← refused_as (reading kind identifier remote s) e h)

  pub requested : n ≡ 0 → remote ≡ 1 → hearing_at b slot identifier remote s ≡ done (naming b slot no_run)
  unfolding hearing_at hearing_as read_as meant
  requested z q = rw (← k, accepted_as kind identifier remote s (sym e ∙ z), eq-eqb remote 1 q)

  read_told : n ≡ 0 → (remote ≡ 1 → ⊥) → reading kind identifier remote s ≡ Ok (address_of identifier, Tells (command_of s))
  read_told z q = rw (accepted_as kind identifier remote s (sym e ∙ z), ne_eqb remote 1 q)

  pub told : n ≡ 0 → (remote ≡ 1 → ⊥) → hearing_at b slot identifier remote s ≡ hearing_as b slot (bus_address identifier) kind (meaning_of kind (command_of s))
  unfolding hearing_at read_as meant
  told z q = rw (← k, read_told z q)

  pub accepted : n ≡ 0 → (remote ≡ 1 → ⊥) → Accepted kind (data_of s) (command_of s)
  accepted z q = read_accepted kind identifier remote s (address_of identifier) (command_of s) (read_told z q)

  pub type_fits_lem : n ≡ 0 → (remote ≡ 1 → ⊥) → byte 1 s ≡ type_command → (2 ≤ length s) × (length s ≡ (row_for (byte 2 s) type_command).0)
  type_fits_lem z q t =
      let a = accepted z q in
      let sized : length s ≡ (row_for (byte 2 s) type_command).0 = rw (t) at a.sized in
      let listed : is_listed (byte 2 s) type_command ≡ true = rw (t) at a.listed in
      let two = type_sized (byte 2 s) type_command listed refl in
      (omega arith, sized)

pub newcomer_types : (b : List ℕ) (slot identifier remote : ℕ) (s : List ℕ) {n : ℕ} → no_type ≡ kind_in b slot → n ≡ reading_number (reading no_type identifier remote s) → n ≡ 0 → (remote ≡ 1 → ⊥) → byte 1 s ≡ type_command
newcomer_types b slot identifier remote s k e z q = go (eqb (byte 1 s) type_command) (eqb-true (byte 1 s) type_command) (accepted b slot identifier remote s k e z q).listed
  where
    go : (t : Bool) → (t ≡ true → byte 1 s ≡ type_command) → is_listed (cond t (byte 2 s) no_type) (byte 1 s) ≡ true → byte 1 s ≡ type_command
    go true h m = h refl
    go false h m = absurd (let l = listed_module no_type (byte 1 s) m in let z : ◌≡◌ {A = ℕ} 0 1 = cc in omega arith)

pub slot-none : (b : List ℕ) (a : ℕ) → room ≤ slot_of b a → slot_of b a ≡ no_slot
unfolding slot_of believed modules_of
slot-none b a =
    let s = get_or b (slot_at a) 0 in
    go (ltb s (modules_of b)) (eqb (get_or b (record_at s) 0) a) s (modules_of b) (ltb-true s (modules_of b)) (omega arith)
  where
    go : (t u : Bool) (s m : ℕ) → (t ≡ true → s < m) → m ≤ room → room ≤ cond (t && u) s no_slot → cond (t && u) s no_slot ≡ no_slot
    go false u s m h l r = refl
    go true false s m h l r = refl
    go true true s m h l r = absurd (let q = h refl in omega arith)
