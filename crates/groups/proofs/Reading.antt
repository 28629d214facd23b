-- Laws of reading a number.
--     different                                           two constructors are not equal
--     number_end, -none, -large, -last, -long, -joined    what is found at an offset of the input, case by case
--     value_at_lem, bad_at_lem, ends_at                           a value that was read fits; a bad byte lies in the input; what is cut off is short
-- Assumes nothing.
use mathlib.Core.Path.{◌≡◌, refl, sym, ap, subst, ◌∙◌}
use mathlib.Core.List.{List, [], ◌∷◌}
use mathlib.Core.Bool.{cond}
use Prim.Native.Nat.{ℕ, zero, suc, ◌+◌, ◌-◌, ◌*◌, ◌/◌, ◌≤◌, ◌<◌, zero-le}
use native.Mathlib.Numerals.{add-one}
use native.Mathlib.Omega.{arith}
use lib.ListN.{length, get_or, drop, drop_of_length-le, length-drop}
use lib.Seq.{drop-cons}
use lib.Dec.{ltb, eqb}
use borrow.Author.Tests.{lt-ltb, le-ltb, eq-eqb, ne_eqb, ltb-false, eqb-false}
use Rattle.laws.proofs.Choices.{cond_elim}
use Rattle.std.specs.Prelude.{Ok, Err}
use Rattle.groups.specs.declared.scan.NumberFault.TheVariants.{Ends, Bad}
use Rattle.groups.specs.Number.{Found, read_number, joined}

-- two constructors are not equal
pub different : ◌≡◌ {A = ℕ} 0 1 → ⊥
different q = omega arith

-- what the byte b at `at`, with bs after it, gives where one more group than `left` is allowed
unfoldable pub step : ℕ → ℕ → ℕ → ℕ → List ℕ → Found
step left most at b bs =
    cond (ltb most b) (Err (Bad at))
    (cond (ltb b 128) (Ok (b, 1))
    (cond (eqb left 0) (Err (Bad at))
    (joined at (b - 128) (read_number left ((most - (b - 128)) / 128) (at + 1) bs))))

pub number-head : (left most at b : ℕ) (bs : List ℕ) → read_number (suc left) most at (b ∷ bs) ≡ step left most at b bs
unfolding read_number step
number-head left most at b bs = refl

-- the number at `at`, of at most `left` groups
abbrev pub groups_at : List ℕ → ℕ → ℕ → ℕ → Found
groups_at s left most at = read_number left most at (drop at s)

pub number_end : (left most at : ℕ) (s : List ℕ) → length s ≤ at → Err Ends ≡ groups_at s left most at
unfolding read_number
number_end left most at s h = rw (drop_of_length-le s h)

pub number-none : (left most at : ℕ) (s : List ℕ) → at < length s → left ≡ 0 → Err (Bad at) ≡ groups_at s left most at
unfolding read_number
number-none left most at s h e = rw (e, drop-cons s at 0)

number_step : (left most at : ℕ) (s : List ℕ) → at < length s → groups_at s (suc left) most at ≡ step left most at (get_or s at 0) (drop (at + 1) s)
unfolding read_number step
number_step left most at s h =
    ap (read_number (suc left) most at) (drop-cons s at 0 h)
    ∙ ap (λ (n : ℕ). step left most at (get_or s at 0) (drop n s)) (sym (add-one at))

-- the cases where there is a byte, b, and a group is allowed
module _ (left most at : ℕ) (s : List ℕ) (b : ℕ) (inside : at < length s) (some : left ≡ 0 → ⊥) (byte : b ≡ get_or s at 0) where
  at_byte : groups_at s left most at ≡ step (left - 1) most at b (drop (at + 1) s)
  at_byte =
      let e : left ≡ suc (left - 1) = omega arith in
      ap (λ (n : ℕ). groups_at s n most at) e ∙ number_step (left - 1) most at s inside ∙ ap (λ (n : ℕ). step (left - 1) most at n (drop (at + 1) s)) (sym byte)

  pub number_large : most < b → Err (Bad at) ≡ groups_at s left most at
  unfolding step
  number_large h = rw (at_byte, lt-ltb most b h)

  pub number_last : b ≤ most → b < 128 → Ok (b, 1) ≡ groups_at s left most at
  unfolding step
  number_last h l = rw (at_byte, le-ltb most b h, lt-ltb b 128 l)

  pub number_long : b ≤ most → 128 ≤ b → left ≡ 1 → Err (Bad at) ≡ groups_at s left most at
  unfolding step
  number_long h l one = rw (at_byte, le-ltb most b h, le-ltb b 128 l, eq-eqb (left - 1) 0 (omega arith))

  number_more : b ≤ most → 128 ≤ b → (left ≡ 1 → ⊥) → joined at (b - 128) (groups_at s (left - 1) ((most - (b - 128)) / 128) (at + 1)) ≡ groups_at s left most at
  unfolding step
  number_more h l more = rw (at_byte, le-ltb most b h, le-ltb b 128 l, ne_eqb (left - 1) 0 (λ e. omega arith))

  -- the same where the rest that was read is known
  pub number-joined : b ≤ most → 128 ≤ b → (left ≡ 1 → ⊥) → {rest r : Found} → rest ≡ groups_at s (left - 1) ((most - (b - 128)) / 128) (at + 1) → rest ≡ r
      → joined at (b - 128) r ≡ groups_at s left most at
  number-joined h l more read e = ap (joined at (b - 128)) (sym e ∙ read) ∙ number_more h l more

-- a value that was read at `at`, of at most `left` groups, is at most `most` and ends by `end`; a zero is one group
pub record Fits (left most at end v groups : ℕ) : Type 0 where
  pub small : v ≤ most
  pub some : 0 < groups
  pub inside : at + groups ≤ end
  pub short : groups ≤ left
  pub zero_short : v ≡ 0 → groups ≡ 1

-- what was read of n bytes from `at` on fits; a bad byte lies among them; and where they end the number, they are fewer than its groups
abbrev pub Within : ℕ → ℕ → ℕ → ℕ → Found → Type 0
Within left most at n (Ok (v, groups)) = Fits left most at (at + n) v groups
Within left most at n (Err Ends) = n ≤ left - 1
Within left most at n (Err (Bad p)) = (at ≤ p) × (p < at + n)

joined-within : (left most at low n : ℕ) → (left ≡ 0 → ⊥) → low ≤ most → (r : Found) → Within left ((most - low) / 128) (at + 1) n r → Within (suc left) most at (suc n) (joined at low r)
joined-within left most at low n some h (Err Ends) w = omega arith
joined-within left most at low n some h (Err (Bad p)) w = (omega arith, omega arith)
joined-within left most at low n some h (Ok (v, groups)) w =
    cond_elim (Within (suc left) most at (suc n)) (eqb v 0) (Err (Bad (at + 1))) (Ok (low + 128 * v, groups + 1)) (λ _. (omega arith, omega (arith, w.some, w.inside)))
    (λ z. let some-v : v ≡ 0 → ⊥ = eqb-false v 0 z in
    record { small = omega arith; some = omega arith; inside = omega arith; short = omega arith; zero_short = λ e. absurd (some-v (omega arith)) })

pub number-within : (left most at : ℕ) (bs : List ℕ) → Within left most at (length bs) (read_number left most at bs)
unfolding read_number
number-within left most at [] = zero-le
number-within zero most at (b ∷ bs) = (omega arith, omega arith)
number-within (suc left) most at (b ∷ bs) =
    let P : Found → Type 0 = Within (suc left) most at (suc (length bs)) in
    let low : ℕ = b - 128 in
    let m : ℕ = (most - low) / 128 in
    let here : P (Err (Bad at)) = (omega arith, omega arith) in
    cond_elim P (ltb most b) _ _ (λ _. here)
    (λ e. let h : b ≤ most = ltb-false most b e in
    cond_elim P (ltb b 128) _ _ (λ _. record { small = h; some = omega arith; inside = omega arith; short = omega arith; zero_short = λ _. refl })
    (λ _. cond_elim P (eqb left 0) _ _ (λ _. here)
    (λ z. joined-within left most at low (length bs) (eqb-false left 0 z) (omega arith) (read_number left m (at + 1) bs) (number-within left m (at + 1) bs))))

-- the same at an offset of the input, where what was read is known
module _ (left most at : ℕ) (s : List ℕ) where
  within_at : (r : Found) → r ≡ groups_at s left most at → Within left most at (length s - at) r
  within_at r e =
      let w : Within left most at (length (drop at s)) r = subst (Within left most at (length (drop at s))) (sym e) (number-within left most at (drop at s)) in
      subst (λ (n : ℕ). Within left most at n r) (length-drop at s) w

  pub value_at_lem : (r : Found) (v groups : ℕ) → r ≡ groups_at s left most at → r ≡ Ok (v, groups) → Fits left most at (length s) v groups
  value_at_lem r v groups e f =
      let w : Fits left most at (at + (length s - at)) v groups = within_at (Ok (v, groups)) (sym f ∙ e) in
      record { small = w.small; some = w.some; inside = omega arith; short = w.short; zero_short = w.zero_short }

  pub bad_at_lem : (p : ℕ) → Err (Bad p) ≡ groups_at s left most at → (at ≤ p) × (p < length s)
  bad_at_lem p e =
      let w : Within left most at (length s - at) (Err (Bad p)) = within_at (Err (Bad p)) e in
      (w.0, omega arith)

  pub ends_at : Err Ends ≡ groups_at s left most at → length s - at ≤ left - 1
  ends_at e = within_at (Err Ends) e
