-- A type frame heard: what its entry does, by what was done.
--     again_same, again_other     of a module of that type, and of another
--     newcomer_number, newcomer_bytes     of no module
-- Assumes nothing.
use Prim.Native.Nat.{ℕ, ◌+◌, ◌-◌, ◌≤◌, ◌<◌}
use native.Mathlib.Omega.{arith}
use mathlib.Core.Path.{◌≡◌, refl, sym, ◌∙◌}
use mathlib.Core.Bool.{Bool, true, false, cond, not}
use mathlib.Core.List.{List}
use lib.Dec.{eqb, ltb}
use lib.ListN.{get_or, length}
use borrow.Author.Tests.{eqb-true, eqb-false, eq-eqb, ne_eqb, lt-ltb, le-ltb}
use Rattle.laws.specs.Refusals.{no_room}
use Rattle.laws.specs.Tests.{unless}
use Rattle.kinds.specs.Types.{no_type, row_for}
use Rattle.frame.specs.Identifiers.{address_of}
use Rattle.frame.specs.Bytes.{byte}
use Rattle.frame.specs.Messages.{type_command, type_frame}
use Rattle.frame.specs.declared.identifiers.Address.{Address}
use Rattle.places.specs.Places.{places}
use Rattle.places.specs.Runs.{Run, build_told, meaning_of}
use Rattle.shape.specs.Limits.{room, bus_address}
use Rattle.shape.specs.Layout.{size}
use Rattle.shape.specs.Result.{Result}
use Rattle.shape.specs.Head.{no_slot, modules_of}
use Rattle.changes.specs.Telling.{naming, told_in}
use Rattle.modules.specs.Records.{exchanged_bytes, entered_bytes, enter_number, entered_in, exchanged_in}
use Rattle.stores.proofs.Within.{lies_true}
use Rattle.changes.proofs.Told.{told_in_lem}
use Rattle.picture.specs.Hearing.{entering, hearing_as, number_of}
use Rattle.picture.proofs.Meant.{type_told_lem}

-- the build in the last two bytes
abbrev build_in : List ℕ → Run
build_in s = build_told (get_or s (length s - 1 - 1) 0) (get_or s (length s - 1) 0)

module _ (b : List ℕ) (slot identifier kind : ℕ) (s : List ℕ) (entered : ℕ)
    (two : 2 ≤ length s) (sized : length s ≡ (row_for (byte 2 s) type_command).0) (second : entered ≡ byte 2 s) where
  enters_as : hearing_as b slot (bus_address identifier) kind (meaning_of kind (type_frame s)) ≡ entering b slot (bus_address identifier) kind entered (build_in s)
  unfolding hearing_as
  enters_as = rw (type_told_lem kind s two sized, second)

  module _ (long : size ≤ length b) (listed : slot < room) (x : List ℕ) where
    pub again_same : entered ≡ kind → x ≡ told_in b slot (build_in s) → x ≡ (hearing_as b slot (bus_address identifier) kind (meaning_of kind (type_frame s))).buffer
    unfolding entering naming
    again_same same t =
        rw (enters_as, lt-ltb slot room listed, eq-eqb kind entered (sym same))
        (t ∙ told_in_lem b slot (build_in s) long listed (omega arith))

    pub again_other : (entered ≡ kind → ⊥) → (a : Address) → a ≡ address_of identifier → x ≡ exchanged_in b slot a.0 entered (build_in s)
        → x ≡ (hearing_as b slot (bus_address identifier) kind (meaning_of kind (type_frame s))).buffer
    unfolding entering exchanged_in
    again_other other a here t =
        rw (enters_as, lt-ltb slot room listed, ne_eqb kind entered (λ e. other (sym e)))
        (t ∙ rw (lies_true (length b) slot 0 places long listed (omega arith), here))

module _ (b : List ℕ) (identifier : ℕ) (s : List ℕ) (entered : ℕ)
    (two : 2 ≤ length s) (sized : length s ≡ (row_for (byte 2 s) type_command).0) (second : entered ≡ byte 2 s) (long : size ≤ length b) where
  abbrev newcomer : Result
  newcomer = hearing_as b no_slot (bus_address identifier) no_type (meaning_of no_type (type_frame s))

  room_decides : (t : Bool) → ltb (modules_of b) room ≡ t → number_of newcomer ≡ unless t no_room 0
  unfolding entering
  room_decides true h = rw (enters_as b no_slot identifier no_type s entered two sized second, h)
  room_decides false h = rw (enters_as b no_slot identifier no_type s entered two sized second, h)

  pub newcomer_number : (n : ℕ) → n ≡ enter_number b → n ≡ number_of newcomer
  unfolding enter_number
  newcomer_number n e = rw (room_decides (ltb (modules_of b) room) refl) (rw (le-ltb (length b) size long) at e)

  bytes_by : (a : ℕ) → a ≡ bus_address identifier → (t : Bool) → ltb (modules_of b) room ≡ t
      → cond (eqb (unless t no_room 0) 0) (entered_bytes b a entered (build_in s)) b ≡ newcomer.buffer
  unfolding entering
  bytes_by a here true h = rw (enters_as b no_slot identifier no_type s entered two sized second, h, here)
  bytes_by a here false h = rw (enters_as b no_slot identifier no_type s entered two sized second, h)

  pub newcomer_bytes : (x : List ℕ) (a : Address) → a ≡ address_of identifier → x ≡ entered_in b a.0 entered (build_in s) → x ≡ newcomer.buffer
  unfolding entered_in enter_number
  newcomer_bytes x a here e = (rw (le-ltb (length b) size long) at e) ∙ bytes_by a.0 (rw here) (ltb (modules_of b) room) refl
