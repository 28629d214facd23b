-- The log's next entry: what it undoes goes by its offset and the bytes that it keeps, and nothing else changes. Assumes nothing.
use Prim.Native.Nat.{ℕ, ◌+◌, ◌*◌, ◌/◌, ◌%◌, ◌<◌, ◌≤◌}
use native.Mathlib.Omega.{arith}
use mathlib.Core.Path.{◌≡◌}
use mathlib.Core.List.{List}
use lib.ListN.{get_or, length}
use Rattle.shape.specs.Limits.{ring}
use Rattle.shape.specs.Layout.{kept_at, next_at, entry_size, old_at, offset_at, size}
use Rattle.shape.specs.Head.{next_of}
use Rattle.stores.specs.Log.{did_nothing, did_enter, number_bytes, noted_at, noted}
use Rattle.stores.specs.Stepping.{offset_of}
use Rattle.history.specs.Machine.{Undo, same, entered}
use Rattle.history.specs.Refinement.{undo_at, state_of, Good}
use Rattle.history.proofs.Stores.{Within, within_wider, laid-within, laid_at, stored_lays}
use Rattle.history.proofs.Parts.{undo-apart, next_small, depth_by, good_within, modules_still, Does}

-- a number is the sum of its four bytes
summed : (n a b c d q r : ℕ) → n ≡ 256 * q + a → q ≡ 256 * r + b → r ≡ 256 * d + c → a + 256 * b + 65536 * c + 16777216 * d ≡ n
summed n a b c d q r h k l = omega arith

four_bytes : (n : ℕ) → n < 4294967296 → n % 256 + 256 * (n / 256 % 256) + 65536 * (n / 65536 % 256) + 16777216 * (n / 16777216 % 256) ≡ n
four_bytes n h =
    let p : n / 65536 ≡ n / 256 / 256 = omega arith in
    let q : n / 16777216 ≡ n / 256 / 256 / 256 = omega arith in
    let d : n / 16777216 % 256 ≡ n / 256 / 256 / 256 = omega arith in
    rw (d, p) (summed n (n % 256) (n / 256 % 256) (n / 256 / 256 % 256) (n / 256 / 256 / 256) (n / 256) (n / 256 / 256) (omega arith) (omega arith) (omega arith))

module _ (b : List ℕ) (e n : ℕ) (whole : size ≤ length b) (e-ok : e < ring) where
  pub within_offset : Within (offset_at e) (offset_at e + 4) b (noted_at b e n)
  unfolding noted_at
  within_offset = laid-within (stored_lays b (offset_at e) (number_bytes n)) 4

  byte_at : (o j : ℕ) → o ≡ offset_at e + j → j < 4 → get_or (noted_at b e n) o 0 ≡ get_or (number_bytes n) j 0
  unfolding noted_at
  byte_at o j q h = rw q (laid_at (stored_lays b (offset_at e) (number_bytes n)) 4 j h (omega arith))

  pub offset_is : n < 4294967296 → offset_of (noted_at b e n) e ≡ n
  offset_is h =
      rw (
        byte_at (offset_at e) 0 (omega arith) (omega arith),
        byte_at (offset_at e + 1) 1 (omega arith) (omega arith),
        byte_at (offset_at e + 2) 2 (omega arith) (omega arith),
        byte_at (offset_at e + 3) 3 (omega arith) (omega arith),
      )
      (four_bytes n h)

-- the next entry alone changed
pub does_entry : (b c : List ℕ) (u : Undo) → Good b → Within (old_at (next_of b)) (old_at (next_of b) + entry_size) b c → undo_at c (next_of b) ≡ u → Does b c u (state_of b).modules
does_entry b c u good w h =
    record {
      good = good_within w (λ p q. omega arith) (λ a l p q. omega arith) (λ s l p q. omega arith) good;
      logs =
          record {
            kept_is = w.outside kept_at (λ p q. omega arith);
            next_is = w.outside next_at (λ p q. omega arith);
            depth_is = depth_by w (λ p q. omega arith);
            latest_is = h;
            others_are = λ e l d. undo-apart w e (λ o p q x y. omega arith);
          };
      modules_are = modules_still w (λ p q. omega arith) (λ o p q x y. omega arith);
    }

-- nothing done, and a module entered
module _ (b : List ℕ) (good : Good b) where
  pub within-noted : (n : ℕ) → Within (old_at (next_of b)) (old_at (next_of b) + entry_size) b (noted b n)
  within-noted n = within_wider (omega arith) (omega arith) (within_offset b (next_of b) n good.whole (next_small b))

  pub does_same : Does b (noted b did_nothing) same (state_of b).modules
  unfolding undo_at
  does_same = does_entry b (noted b did_nothing) same good (within-noted did_nothing) (rw (offset_is b (next_of b) did_nothing good.whole (next_small b) (omega arith)))

  pub does_enter : Does b (noted b did_enter) entered (state_of b).modules
  unfolding undo_at
  does_enter = does_entry b (noted b did_enter) entered good (within-noted did_enter) (rw (offset_is b (next_of b) did_enter good.whole (next_small b) (omega arith)))
