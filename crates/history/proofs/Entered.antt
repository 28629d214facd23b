-- A module entered: the bytes, before the step is counted, are those of the machine. Assumes nothing.
use Prim.Native.Nat.{ℕ, suc, ◌+◌, ◌<◌, ◌≤◌}
use native.Mathlib.Omega.{arith}
use mathlib.Core.Path.{◌≡◌, refl, ◌∙◌}
use mathlib.Core.Bool.{Bool, true, false}
use mathlib.Core.Logic.{◌≢◌}
use mathlib.Core.List.{List, [], ◌∷◌, ◌++◌}
use lib.Dec.{eqb}
use lib.ListN.{get_or, set, length, length-set}
use lib.Seq.{get_or-set_same, get_or-set_other}
use borrow.Author.Tests.{eqb-true, eqb-false}
use Rattle.laws.proofs.Tab.{tab_ext, tab_snoc}
use Rattle.shape.specs.Limits.{room, addresses}
use Rattle.places.specs.Places.{places}
use Rattle.places.specs.Runs.{Run}
use Rattle.places.specs.Fitting.{end_of}
use Rattle.shape.specs.Layout.{count_at, slot_at, record_size, record_at, size}
use Rattle.shape.specs.Head.{modules_of}
use Rattle.stores.specs.Log.{did_enter, noted}
use Rattle.modules.specs.Records.{new_record, listed_at}
use Rattle.history.specs.Machine.{entered, new}
use Rattle.history.specs.Refinement.{module_at, state_of, Good}
use Rattle.history.proofs.Stores.{Within, within-set}
use Rattle.history.proofs.Parts.{module_apart, modules_stored, logs_still, Does}
use Rattle.history.proofs.Noted.{does_enter, within-noted}
use Rattle.history.proofs.NewRecord.{within_new, new_module, new-address}

module _ (b : List ℕ) (a k : ℕ) (r : Run) (good : Good b) (fit : end_of r ≤ places) (small : a < addresses) (free : modules_of b < room)
    (unlisted : (s : ℕ) → s < modules_of b → get_or b (record_at s) 0 ≡ a → ⊥) where
  abbrev n : ℕ
  n = modules_of b

  abbrev begun : List ℕ
  begun = noted b did_enter

  does : Does b begun entered (state_of b).modules
  does = does_enter b good

  abbrev laid : List ℕ
  laid = new_record begun n a k r

  lw : Within (record_at n) (record_at n + record_size) begun laid
  lw = within_new begun n a k does.good.whole free r fit

  whole_laid : size ≤ length laid
  whole_laid = rw lw.long does.good.whole

  abbrev tabled : List ℕ
  tabled = set laid (slot_at a) n

  abbrev listed : List ℕ
  listed = set tabled count_at (suc n)

  byte_is : (o : ℕ) → o ≢ count_at → o ≢ slot_at a → get_or listed o 0 ≡ get_or laid o 0
  byte_is o p q = get_or-set_other tabled count_at o (suc n) 0 p ∙ get_or-set_other laid (slot_at a) o n 0 q

  -- a byte of the head, the table or a record that none of these touches
  byte_still : (o : ℕ) → o < record_at room → o ≢ count_at → o ≢ slot_at a → (record_at n ≤ o → o < record_at n + record_size → ⊥) → get_or listed o 0 ≡ get_or b o 0
  byte_still o h p q m = byte_is o p q ∙ lw.outside o m ∙ (within-noted b good did_enter).outside o (λ x y. omega arith)

  count_is : modules_of listed ≡ suc n
  count_is = modules_stored tabled (suc n) (rw length-set whole_laid) (omega arith)

  own-address : get_or listed (record_at n) 0 ≡ a
  own-address = byte_is (record_at n) (omega arith) (omega arith) ∙ new-address begun n a k does.good.whole free r fit

  own-slot : get_or listed (slot_at a) 0 ≡ n
  own-slot = get_or-set_other tabled count_at (slot_at a) (suc n) 0 (omega arith) ∙ get_or-set_same laid (slot_at a) n 0 (omega (arith, whole_laid))

  old_address : (s : ℕ) → s < n → get_or listed (record_at s) 0 ≡ get_or b (record_at s) 0
  old_address s h = byte_still (record_at s) (omega arith) (omega arith) (omega arith) (λ p q. omega arith)

  old_slot : (x : ℕ) → x < addresses → x ≢ a → get_or listed (slot_at x) 0 ≡ get_or b (slot_at x) 0
  old_slot x h d = byte_still (slot_at x) (omega arith) (omega arith) (omega arith) (λ p q. omega arith)

  listed_good : Good listed
  listed_good =
      record {
        whole = simp length-set whole_laid;
        small = λ s h. small_at s (eqb s n) refl (rw count_is at h);
        table = λ s h. table_at s (eqb s n) refl (rw count_is at h);
      }
    where
      small_at : (s : ℕ) (c : Bool) → eqb s n ≡ c → s < suc n → get_or listed (record_at s) 0 < addresses
      small_at s true e h = rw (eqb-true s n e, own-address) small
      small_at s false e h = let d : s ≢ n = eqb-false s n e in rw (old_address s (omega arith)) (good.small s (omega arith))

      table_at : (s : ℕ) (c : Bool) → eqb s n ≡ c → s < suc n → get_or listed (slot_at (get_or listed (record_at s) 0)) 0 ≡ s
      table_at s true e h = rw (eqb-true s n e, own-address) own-slot
      table_at s false e h =
          let d : s ≢ n = eqb-false s n e in
          let l : s < n = omega arith in
          rw (old_address s l, old_slot (get_or b (record_at s) 0) (good.small s l) (unlisted s l)) (good.table s l)

  module_is : (j : ℕ) → module_at listed j ≡ module_at laid j
  module_is j = module_apart (within-set tabled count_at (suc n)) j (λ o p q x y. omega arith) ∙ module_apart (within-set laid (slot_at a) n) j (λ o p q x y. omega arith)

  listed_modules : (state_of listed).modules ≡ (state_of b).modules ++ (new a k r ∷ [])
  unfolding state_of
  listed_modules =
      rw (
        count_is,
        tab_snoc n (module_at listed),
        tab_ext n (module_at listed) (module_at b)
            (λ j l. module_is j ∙ module_apart lw j (λ o p q x y. omega arith) ∙ module_apart (within-noted b good did_enter) j (λ o p q x y. omega arith)),
        module_is n,
        new_module begun n a k does.good.whole free r fit,
      )

  pub does_listed : Does b (listed_at laid n a) entered ((state_of b).modules ++ (new a k r ∷ []))
  unfolding listed_at
  does_listed =
      record {
        good = listed_good;
        logs =
            logs_still (within-set tabled count_at (suc n)) (λ p q. omega arith) (omega arith)
            (logs_still (within-set laid (slot_at a) n) (λ p q. omega arith) (omega arith) (logs_still lw (λ p q. omega arith) (omega arith) does.logs));
        modules_are = listed_modules;
      }
