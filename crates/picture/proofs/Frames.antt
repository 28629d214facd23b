-- A frame heard, by the number that the code found.
--     type_refused, type_fit, type_heard     a type frame at a listed address, judged as at no type
--     bad_refused, unhanded, handed_is       a type that may not be handed in, and one that may
--     form_passed, form_refused              a frame that passes the first tests, and one that does not
--     request_refused, request_heard         a type request
--     newcomer_refused, newcomer_request, newcomer_fits, newcomer_heard     at an address with no module
-- Assumes nothing.
use Prim.Native.Nat.{ℕ, ◌≤◌, ◌<◌}
use mathlib.Core.Path.{◌≡◌, refl, sym, ◌∙◌}
use mathlib.Core.Bool.{Bool, true, false, not, cond, ◌&&◌}
use mathlib.Core.List.{List}
use native.Mathlib.Omega.{arith}
use lib.Dec.{eqb, ltb}
use lib.ListN.{length}
use borrow.Author.Tests.{eqb-true, eqb-false, not-true, not-false, lt-ltb, le-ltb}
use Rattle.laws.specs.Refusals.{bad_type}
use Rattle.laws.specs.Tests.{among, unless}
use Rattle.laws.proofs.Testing.{held}
use Rattle.kinds.specs.Types.{no_type, handed_types, row_for}
use Rattle.frame.specs.Identifiers.{priority_of}
use Rattle.frame.specs.Bytes.{byte, data_of}
use Rattle.frame.specs.Messages.{type_command, type_frame}
use Rattle.judging.specs.Reading.{frame_refusal, request_refusal, command_refusal, reading, reading_number}
use Rattle.judging.proofs.Numbers.{frame_number, request_number, command-number}
use Rattle.judging.proofs.Handed.{handed_form, handed_bad, type_alike}
use Rattle.places.specs.Runs.{no_run, meaning_of, command_of}
use Rattle.shape.specs.Limits.{room, bus_address}
use Rattle.shape.specs.Layout.{size}
use Rattle.shape.specs.Result.{Result}
use Rattle.shape.specs.Head.{no_slot, kind_in}
use Rattle.changes.specs.Telling.{told_bytes, same_bytes, naming, passed_in}
use Rattle.picture.specs.Hearing.{entering, hearing_as, hearing_at, number_of}
use Rattle.picture.proofs.Meant.{type_by, type_told_lem}
use Rattle.picture.proofs.Heard.{refused, requested, told, type_fits_lem, newcomer_types}

-- what was answered and what the bytes are now, beside a frame's hearing
abbrev pub Heard : ℕ → List ℕ → Result → Type 0
Heard n x r = (n ≡ number_of r) × (x ≡ r.buffer)

-- the first tests, by the code's one answer
module _ (identifier remote : ℕ) (s : List ℕ) {t : Bool} (e : t ≡ eqb (frame_refusal no_type identifier remote (length s)) 0) where
  pub form_passed : t ≡ true → frame_refusal no_type identifier remote (length s) ≡ 0
  form_passed h = eqb-true (frame_refusal no_type identifier remote (length s)) 0 (sym e ∙ h)

  form_failed : t ≡ false → frame_refusal no_type identifier remote (length s) ≡ 0 → ⊥
  form_failed h = eqb-false (frame_refusal no_type identifier remote (length s)) 0 (sym e ∙ h)

module _ (b : List ℕ) (slot identifier remote : ℕ) (s : List ℕ) (kind : ℕ) (k : kind ≡ kind_in b slot) where
  abbrev heard_at : Result
  heard_at = hearing_at b slot identifier remote s

  pub as_refused : (n : ℕ) → n ≡ reading_number (reading kind identifier remote s) → (n ≡ 0 → ⊥) → Heard n b heard_at
  as_refused n e h = let q = refused b slot identifier remote s k e h in (rw q, rw q)

  pub bad_refused : among kind handed_types ≡ false → Heard bad_type b heard_at
  bad_refused h = as_refused bad_type (rw (handed_bad kind identifier remote s h)) (λ z. omega arith)

  pub unhanded : {n : ℕ} → n ≡ unless (among kind handed_types) bad_type 0 → (n ≡ 0 → ⊥) → Heard n b heard_at
  unhanded {n} e some = go (among kind handed_types) refl e
    where
      go : (t : Bool) → among kind handed_types ≡ t → n ≡ unless t bad_type 0 → Heard n b heard_at
      go true h e = absurd (some e)
      go false h e = rw e (bad_refused h)

  pub handed_is : 0 ≡ unless (among kind handed_types) bad_type 0 → among kind handed_types ≡ true
  handed_is = go (among kind handed_types)
    where
      go : (t : Bool) → 0 ≡ unless t bad_type 0 → t ≡ true
      go true e = refl
      go false e = absurd (omega arith)

  -- ---- the frame's own tests, a type request, and a command, whichever type is handed in
  pub form_refused : {t : Bool} → t ≡ eqb (frame_refusal no_type identifier remote (length s)) 0 → t ≡ false → among kind handed_types ≡ true
      → (n : ℕ) → n ≡ frame_refusal no_type identifier remote (length s) → Heard n b heard_at
  form_refused f h handed n e = as_refused n (frame_number kind identifier remote s (e ∙ handed_form kind identifier remote (length s) handed) z) z
    where
      z : n ≡ 0 → ⊥
      z q = form_failed identifier remote s f h (sym e ∙ q)

  module _ (passed : frame_refusal no_type identifier remote (length s) ≡ 0) where
    pub framed : among kind handed_types ≡ true → 0 ≡ frame_refusal kind identifier remote (length s)
    framed h = sym passed ∙ handed_form kind identifier remote (length s) h

    -- ---- a type frame
    module _ (h : among kind handed_types ≡ true) (q : remote ≡ 1 → ⊥) (ff : byte 1 s ≡ type_command) (n : ℕ) (e : n ≡ command_refusal no_type (priority_of identifier) (data_of s) (command_of s)) where
      number : n ≡ reading_number (reading kind identifier remote s)
      number = command-number kind identifier remote s (framed h) refl q (e ∙ type_alike kind identifier remote (priority_of identifier) s (command_of s) ff)

      pub type_refused : (n ≡ 0 → ⊥) → Heard n b heard_at
      type_refused z = as_refused n number z

      pub type_fit : n ≡ 0 → (2 ≤ length s) × (length s ≡ (row_for (byte 2 s) type_command).0)
      type_fit z = type_fits_lem b slot identifier remote s k number z q ff

      pub type_heard :
          n ≡ 0 → slot < room → (x : List ℕ)
          → x ≡ (hearing_as b slot (bus_address identifier) kind (meaning_of kind (type_frame s))).buffer → Heard 0 x heard_at
      unfolding hearing_as entering
      type_heard z l x t =
          let fit = type_fit z in
          let here = told b slot identifier remote s k number z q in
          let frame = type_by s refl ff in
          (rw (here, frame, type_told_lem kind s fit.0 fit.1, lt-ltb slot room l), rw (here, frame) t)

    -- ---- a type request
    module _ (h : among kind handed_types ≡ true) (q : remote ≡ 1) where
      request_is : {n : ℕ} → n ≡ request_refusal (priority_of identifier) → n ≡ reading_number (reading kind identifier remote s)
      request_is e = request_number kind identifier remote s (framed h) refl q e

      pub request_refused : (n : ℕ) → n ≡ request_refusal (priority_of identifier) → (n ≡ 0 → ⊥) → Heard n b heard_at
      request_refused n e z = as_refused n (request_is e) z

      pub request_heard : 0 ≡ request_refusal (priority_of identifier) → size ≤ length b → (x : List ℕ) → x ≡ passed_in b → Heard 0 x heard_at
      unfolding naming passed_in
      request_heard e long x t =
          let here = requested b slot identifier remote s k (request_is e) refl q in
          (rw here, rw here (t ∙ rw (le-ltb (length b) size long) (go (ltb slot room))))
        where
          go : (t : Bool) → same_bytes b ≡ cond (t && false) (told_bytes b slot no_run) (same_bytes b)
          go true = refl
          go false = refl

-- ---- at an address with no module
kind_none : (b : List ℕ) → no_type ≡ kind_in b no_slot
unfolding kind_in
kind_none b = refl

module _ (b : List ℕ) (identifier remote : ℕ) (s : List ℕ) (n : ℕ) (e : n ≡ reading_number (reading no_type identifier remote s)) where
  abbrev heard_new : Result
  heard_new = hearing_at b no_slot identifier remote s

  pub newcomer_refused : (n ≡ 0 → ⊥) → Heard n b heard_new
  newcomer_refused z = as_refused b no_slot identifier remote s no_type (kind_none b) n e z

  module _ (z : n ≡ 0) where
    pub newcomer_request : remote ≡ 1 → size ≤ length b → (x : List ℕ) → x ≡ passed_in b → Heard 0 x heard_new
    unfolding naming passed_in
    newcomer_request q long x t = let here = requested b no_slot identifier remote s (kind_none b) e z q in (rw here, rw here (t ∙ rw (le-ltb (length b) size long)))

    module _ (q : remote ≡ 1 → ⊥) where
      types : byte 1 s ≡ type_command
      types = newcomer_types b no_slot identifier remote s (kind_none b) e z q

      pub newcomer_fits : (2 ≤ length s) × (length s ≡ (row_for (byte 2 s) type_command).0)
      newcomer_fits = type_fits_lem b no_slot identifier remote s (kind_none b) e z q types

      pub newcomer_heard :
          (x : List ℕ) (m : ℕ) → m ≡ number_of (hearing_as b no_slot (bus_address identifier) no_type (meaning_of no_type (type_frame s)))
          → x ≡ (hearing_as b no_slot (bus_address identifier) no_type (meaning_of no_type (type_frame s))).buffer → Heard m x heard_new
      newcomer_heard x m h t =
          let here = told b no_slot identifier remote s (kind_none b) e z q in
          let frame = type_by s refl types in
          (rw (here, frame) h, rw (here, frame) t)
