-- A new record in bytes is the machine's new module. Assumes nothing.
use Prim.Native.Nat.{ℕ, ◌+◌, ◌*◌, ◌<◌, ◌≤◌}
use native.Mathlib.Omega.{arith}
use mathlib.Core.Path.{◌≡◌, ap, ◌∙◌}
use mathlib.Core.List.{List}
use mathlib.Core.Option.{some}
use lib.ListN.{get_or, set, length, length-set}
use lib.Seq.{get_or-set_same, get_or-set_other}
use Rattle.laws.proofs.Tab.{tab_ext, tab-same}
use Rattle.places.specs.Runs.{Run}
use Rattle.shape.specs.Layout.{record_size, record_at, kind_at, place_at, size}
use Rattle.places.specs.Places.{places}
use Rattle.shape.specs.Limits.{room}
use Rattle.history.specs.Standing.{unknown}
use Rattle.places.specs.Fitting.{end_of}
use Rattle.modules.specs.Records.{blank_record, new_record}
use Rattle.history.specs.Machine.{told_by, blank, new}
use Rattle.history.specs.Refinement.{cell_at, module_at}
use Rattle.history.proofs.Stores.{Within, within-then, within_wider, within-set, within-blanked, blanked-cell}
use Rattle.history.proofs.Told.{within-told, told_module}

module _ (b : List ℕ) (s a k : ℕ) (whole : size ≤ length b) (slot-ok : s < room) where
  abbrev headed : List ℕ
  headed = set (set b (record_at s) a) (kind_at s) k

  within_headed : Within (record_at s) (place_at s 0) b headed
  within_headed =
      within-then (within_wider (omega arith) (omega arith) (within-set b (record_at s) a)) (within_wider (omega arith) (omega arith) (within-set (set b (record_at s) a) (kind_at s) k))

  within_rows : Within (place_at s 0) (record_at s + record_size) headed (blank_record b s a k)
  unfolding blank_record
  within_rows = within_wider (omega arith) (omega arith) (within-blanked headed (place_at s 0) places)

  within-blank : Within (record_at s) (record_at s + record_size) b (blank_record b s a k)
  within-blank = within-then (within_wider (omega arith) (omega arith) within_headed) (within_wider (omega arith) (omega arith) within_rows)

  whole_blank : size ≤ length (blank_record b s a k)
  whole_blank = rw within-blank.long whole

  blank-address : get_or (blank_record b s a k) (record_at s) 0 ≡ a
  blank-address =
      within_rows.outside (record_at s) (λ p q. omega arith)
      ∙ get_or-set_other (set b (record_at s) a) (kind_at s) (record_at s) k 0 (omega arith)
      ∙ get_or-set_same b (record_at s) a 0 (omega arith)

  blank_kind : get_or (blank_record b s a k) (kind_at s) 0 ≡ k
  blank_kind =
      within_rows.outside (kind_at s) (λ p q. omega arith) ∙ get_or-set_same (set b (record_at s) a) (kind_at s) k 0 (rw length-set (omega arith))

  blank-cell : (p : ℕ) → p < places → cell_at (blank_record b s a k) (place_at s p) ≡ some unknown
  unfolding blank_record
  blank-cell p l =
      let q : place_at s 0 + 2 * p ≡ place_at s p = omega arith in
      rw q at (blanked-cell headed (place_at s 0) places p l (rw within_headed.long (omega arith)))

  blank_module : module_at (blank_record b s a k) s ≡ record { address = a; kind = k; places = blank }
  unfolding module_at blank
  blank_module =
      rw (
        blank-address,
        blank_kind,
        tab_ext places (λ p. cell_at (blank_record b s a k) (place_at s p)) (λ p. some unknown) blank-cell,
        tab-same places (some unknown),
      )

  module _ (r : Run) (fit : end_of r ≤ places) where
    pub within_new : Within (record_at s) (record_at s + record_size) b (new_record b s a k r)
    unfolding new_record
    within_new = within-then within-blank (within_wider (omega arith) (omega arith) (within-told (blank_record b s a k) s r whole_blank slot-ok fit))

    pub new_module : module_at (new_record b s a k r) s ≡ new a k r
    unfolding new_record new told_by
    new_module = told_module (blank_record b s a k) s r whole_blank slot-ok fit ∙ ap (told_by r) blank_module

    pub new-address : get_or (new_record b s a k r) (record_at s) 0 ≡ a
    unfolding new_record
    new-address = (within-told (blank_record b s a k) s r whole_blank slot-ok fit).outside (record_at s) (λ p q. omega arith) ∙ blank-address
