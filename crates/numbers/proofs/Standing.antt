-- Laws of the quick way.
--     Stands, stands_last, stands-more    a number stands at an offset: its last group, and a group before the rest
--     stands_two_more                     two groups before the rest
--     stands_three, -four, -five          a number of so many groups
--     stood                               where it is allowed, it is what the reader of groups finds
-- Assumes nothing.
use mathlib.Core.Path.{◌≡◌, refl, ap, ◌∙◌}
use mathlib.Core.List.{List}
use Prim.Native.Nat.{ℕ, suc, ◌+◌, ◌-◌, ◌*◌, ◌/◌, ◌≤◌, ◌<◌}
use native.Mathlib.Omega.{arith}
use lib.ListN.{length, get_or}
use borrow.Author.Tests.{ne_eqb}
use Rattle.std.specs.Prelude.{Ok}
use Rattle.groups.specs.Number.{most_groups, groups_of, number_at}
use Rattle.numbers.specs.Statements.{most64}
use Rattle.groups.proofs.Reading.{groups_at, number_last, number-joined}
use Rattle.groups.proofs.Writing.{holds, groups_hold}

-- whatever is allowed, if only v is, and as many groups as hold it: the number at `at` is v
abbrev pub Stands : List ℕ → ℕ → ℕ → ℕ → Type 0
Stands s at v groups = (left most : ℕ) → 0 < left → most < holds left → v ≤ most → Ok (v, groups) ≡ groups_at s left most at

-- a group at `at`, where there is one
module _ (s : List ℕ) (at b : ℕ) (inside : at < length s) (byte : b ≡ get_or s at 0) where
  pub stands_last : b < 128 → Stands s at b 1
  stands_last last left most some enough fits = number_last left most at s b inside (λ e. omega arith) byte fits last

  pub stands-more : (next v groups w n : ℕ) → next ≡ at + 1 → w ≡ b - 128 + 128 * v → n ≡ groups + 1 → 128 ≤ b → 0 < v → Stands s next v groups → Stands s at w n
  stands-more next v groups w n on value count more rest stands left most some enough fits =
      let m : ℕ = (most - (b - 128)) / 128 in
      let two : left ≡ 1 → ⊥ = λ e. let one : holds left ≡ 128 = ap holds e in omega arith in
      let one_more : left ≡ suc (left - 1) = omega arith in
      let fewer : holds left ≡ 128 * holds (left - 1) = ap holds one_more in
      (λ i. Ok (value i, count i))
      ∙ (rw (ne_eqb v 0 (λ e. omega arith)) at
      (number-joined left most at s b inside (λ e. omega arith) byte (omega arith) more two
      (stands (left - 1) m (omega arith) (omega arith) (omega arith) ∙ ap (groups_at s (left - 1) m) on) refl))

-- two groups before the rest
pub stands_two_more : (s : List ℕ) (at a b : ℕ) → at + 1 < length s → a ≡ get_or s at 0 → b ≡ get_or s (at + 1) 0 → 128 ≤ a → 128 ≤ b
    → (next v groups w n : ℕ) → next ≡ at + 2 → w ≡ a - 128 + 128 * (b - 128) + 16384 * v → n ≡ groups + 2 → 0 < v → Stands s next v groups → Stands s at w n
stands_two_more s at a b inside first second more more₂ next v groups w n on value count some stands =
    stands-more s at a (omega arith) first (at + 1) (b - 128 + 128 * v) (groups + 1) w n refl (omega arith) (omega arith) more (omega arith)
    (stands-more s (at + 1) b inside second next v groups (b - 128 + 128 * v) (groups + 1) (omega arith) refl refl more₂ some stands)

-- a number of three groups to five, whose first two bytes are a and b
module _ (s : List ℕ) (at a b : ℕ) (first : a ≡ get_or s at 0) (second : b ≡ get_or s (at + 1) 0) (more : 128 ≤ a) (more₂ : 128 ≤ b) where
  pub stands_three : at + 2 < length s → (c : ℕ) → c ≡ get_or s (at + 2) 0 → c < 128 → 0 < c → Stands s at (a - 128 + 128 * (b - 128) + 16384 * c) 3
  stands_three inside c third last some =
      stands_two_more s at a b (omega arith) first second more more₂ (at + 2) c 1 _ 3 refl refl refl some
      (stands_last s (at + 2) c inside third last)

  pub stands_four : at + 3 < length s → (c d : ℕ) → c ≡ get_or s (at + 2) 0 → d ≡ get_or s (at + 3) 0 → 128 ≤ c → d < 128 → 0 < d
      → Stands s at (a - 128 + 128 * (b - 128) + 16384 * (c - 128) + 2097152 * d) 4
  stands_four inside c d third fourth more₃ last some =
      let rest : ℕ = c - 128 + 128 * d in
      stands_two_more s at a b (omega arith) first second more more₂ (at + 2) rest 2 _ 4 refl (omega arith) refl (omega arith)
      (stands-more s (at + 2) c (omega arith) third (at + 3) d 1 rest 2 (omega arith) refl refl more₃ some
      (stands_last s (at + 3) d inside fourth last))

  pub stands_five : at + 4 < length s → (c d e : ℕ) → c ≡ get_or s (at + 2) 0 → d ≡ get_or s (at + 3) 0 → e ≡ get_or s (at + 4) 0 → 128 ≤ c → 128 ≤ d → e < 128 → 0 < e
      → Stands s at (a - 128 + 128 * (b - 128) + 16384 * (c - 128) + 2097152 * (d - 128) + 268435456 * e) 5
  stands_five inside c d e third fourth fifth more₃ more₄ last some =
      let high : ℕ = d - 128 + 128 * e in
      let rest : ℕ = c - 128 + 128 * high in
      stands_two_more s at a b (omega arith) first second more more₂ (at + 2) rest 3 _ 5 refl (omega arith) refl (omega arith)
      (stands-more s (at + 2) c (omega arith) third (at + 3) high 2 rest 3 (omega arith) refl refl more₃ (omega arith)
      (stands-more s (at + 3) d (omega arith) fourth (at + 4) e 1 high 2 (omega arith) refl refl more₄ some
      (stands_last s (at + 4) e inside fifth last)))

pub stood : (s : List ℕ) (at most v groups : ℕ) → most ≤ most64 → v ≤ most → Stands s at v groups → Ok (v, groups) ≡ number_at s at most
stood s at most v groups small fits stands =
    let held = groups_hold most_groups most (omega arith) (omega arith) in
    stands (groups_of most) most held.0 held.1 fits
