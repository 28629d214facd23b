-- Laws of a number's bytes.
--     bytes_none, bytes_last, bytes_more, bytes_length    the bytes of a number, case by case, and how many there are at most
--     holds, groups_hold, groups_rise                     how many numbers groups hold; a number is held by its groups, and a greater one takes as many
--     put-fits, put_no_room                               what writing gives, with room and with none
-- Assumes nothing.
use mathlib.Core.Path.{◌≡◌, ap, ◌∙◌}
use mathlib.Core.List.{List, [], ◌∷◌}
use mathlib.Core.Bool.{cond}
use Prim.Native.Nat.{ℕ, zero, suc, ◌+◌, ◌-◌, ◌*◌, ◌/◌, ◌%◌, ◌≤◌, ◌<◌, zero-le}
use native.Mathlib.Omega.{arith}
use lib.ListN.{length}
use lib.Seq.{sets}
use lib.Dec.{ltb}
use borrow.Author.Tests.{lt-ltb, le-ltb, le-leb, lt-leb, ltb-true, ltb-false}
use Rattle.laws.proofs.Choices.{cond_elim}
use Rattle.laws.proofs.Copying.{copied_all, copied_none}
use Rattle.groups.specs.Number.{number_bytes, bytes_of, groups_of}
use Rattle.groups.specs.Write.{put_groups, put_into}

pub bytes_none : (left v : ℕ) → left ≡ 0 → number_bytes left v ≡ []
unfolding number_bytes
bytes_none left v e = ap (λ (n : ℕ). number_bytes n v) e

bytes_step : (left v : ℕ) → (left ≡ 0 → ⊥) → number_bytes left v ≡ cond (ltb v 128) (v ∷ []) ((v % 128 + 128) ∷ number_bytes (left - 1) (v / 128))
unfolding number_bytes
bytes_step left v some =
    let e : left ≡ suc (left - 1) = omega arith in
    ap (λ (n : ℕ). number_bytes n v) e

pub bytes_last : (left v : ℕ) → (left ≡ 0 → ⊥) → v < 128 → number_bytes left v ≡ v ∷ []
bytes_last left v some h = bytes_step left v some ∙ (rw (lt-ltb v 128 h))

pub bytes_more : (left v : ℕ) → (left ≡ 0 → ⊥) → 128 ≤ v → number_bytes left v ≡ (v % 128 + 128) ∷ number_bytes (left - 1) (v / 128)
bytes_more left v some h = bytes_step left v some ∙ (rw (le-ltb v 128 h))

pub bytes_length : (left v : ℕ) → length (number_bytes left v) ≤ left
unfolding number_bytes
bytes_length zero v = zero-le
bytes_length (suc left) v =
    let h : length (number_bytes left (v / 128)) ≤ left = bytes_length left (v / 128) in
    cond_elim (λ (l : List ℕ). length l ≤ suc left) (ltb v 128) (v ∷ []) ((v % 128 + 128) ∷ number_bytes left (v / 128)) (λ _. omega arith) (λ _. omega arith)

-- how many numbers `left` groups hold
abbrev pub holds : ℕ → ℕ
holds zero = 1
holds (suc left) = 128 * holds left

-- a number takes one group at least, and they hold it
pub groups_hold : (left v : ℕ) → 0 < left → v < holds left → (0 < length (number_bytes left v)) × (v < holds (length (number_bytes left v)))
unfolding number_bytes
groups_hold zero v some h = absurd (omega arith)
groups_hold (suc zero) v some h = rw (lt-ltb v 128 h) (omega arith, omega arith)
groups_hold (suc (suc left)) v some h =
    let again = groups_hold (suc left) (v / 128) (omega arith) (omega arith) in
    cond_elim (λ (l : List ℕ). (0 < length l) × (v < holds (length l))) (ltb v 128) (v ∷ []) ((v % 128 + 128) ∷ number_bytes (suc left) (v / 128))
    (λ e. (omega arith, omega (arith, ltb-true v 128 e))) (λ _. (omega arith, omega (arith, again.1)))

-- a greater number takes no fewer groups
pub groups_rise : (left v w : ℕ) → v ≤ w → length (number_bytes left v) ≤ length (number_bytes left w)
unfolding number_bytes
groups_rise zero v w h = zero-le
groups_rise (suc left) v w h =
    let again = groups_rise left (v / 128) (w / 128) (omega arith) in
    cond_elim (λ (l : List ℕ). length l ≤ length (cond (ltb w 128) (w ∷ []) ((w % 128 + 128) ∷ number_bytes left (w / 128)))) (ltb v 128) (v ∷ []) ((v % 128 + 128) ∷ number_bytes left (v / 128))
    (λ _. cond_elim (λ (l : List ℕ). 1 ≤ length l) (ltb w 128) (w ∷ []) ((w % 128 + 128) ∷ number_bytes left (w / 128)) (λ _. omega arith) (λ _. omega arith))
    (λ e. let large : 128 ≤ v = ltb-false v 128 e in rw (le-ltb w 128 (omega arith)) (omega arith))

module _ (out : List ℕ) (at v : ℕ) where
  pub put-fits : at + groups_of v ≤ length out → (put_groups out at v ≡ groups_of v) × (put_into out at v ≡ sets out at (bytes_of v))
  unfolding put_groups
  put-fits h = (rw (le-leb (at + groups_of v) (length out) h), copied_all out at (bytes_of v) h)

  pub put_no_room : length out < at + groups_of v → (put_groups out at v ≡ 0) × (put_into out at v ≡ out)
  unfolding put_groups
  put_no_room h = (rw (lt-leb (at + groups_of v) (length out) h), copied_none out at (bytes_of v) h)
