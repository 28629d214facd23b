-- Eight LEDs at once, in the eight bytes of a word.
--     spread-bits     the bits of a byte, from its product; spread_small, which is a small word
--     eight_leds      the states, from the bits of three bytes
--     bytes_back      the bytes of a word that is made of bytes
-- Assumes nothing.
use Prim.Native.Nat.{ℕ, zero, suc, ◌+◌, ◌-◌, ◌*◌, ◌/◌, ◌%◌, ◌^◌, ◌<◌, ◌≤◌}
use native.Mathlib.Omega.{arith}
use mathlib.Core.Path.{◌≡◌, refl}
use lib.Bits.{bit_and, bit_or, bit_xor, and_le_r, or_shr, or_mod, xor_shr, xor_mod}
use lib.Dec.{eqb}
use borrow.Author.Tests.{eqb-true}
use Rattle.laws.specs.Tab.{tab}
use Rattle.laws.proofs.Keys.{below}
use Rattle.places.specs.Runs.{bit, glow_number, glow_by, led_by}
use Rattle.bench.specs.Eights.{byte_word, byte_list}
use Rattle.changes.proofs.Lanes.{bit_small, bit_and_lem, bit_off, bits, led_small}

-- ---- the bits of a byte, a byte each: one test of all bytes
abbrev pub spread_of : ℕ → ℕ
spread_of x = bit_and ((bit_and (x * 0x0101010101010101) 0x8040201008040201 + 0x7F7F7F7F7F7F7F7F) / 128) 0x0101010101010101

pub spread-bits : (x : ℕ) → x < 256 → spread_of x ≡ byte_word (tab 8 (bit x))
unfolding tab byte_word
spread-bits x h = eqb-true _ _ (below (λ x. eqb (spread_of x) (byte_word (tab 8 (bit x)))) 256 refl x h)

pub spread_small : (x : ℕ) → spread_of x ≤ 0x0101010101010101
spread_small x = and_le_r ((bit_and (x * 0x0101010101010101) 0x8040201008040201 + 0x7F7F7F7F7F7F7F7F) / 128) 0x0101010101010101

-- ---- one state, from the bits
bit_or_lem : (a b i : ℕ) → bit (bit_or a b) i ≡ bit_or (bit a i) (bit b i)
bit_or_lem a b i = rw (or_shr a b i) (or_mod (a / 2 ^ i) (b / 2 ^ i) 1)

bit_xor_lem : (a b i : ℕ) → bit (bit_xor a b) i ≡ bit_xor (bit a i) (bit b i)
bit_xor_lem a b i = rw (xor_shr a b i) (xor_mod (a / 2 ^ i) (b / 2 ^ i) 1)

abbrev Stated : ℕ → ℕ → ℕ → Type 0
Stated on slow fast =
    let s = bit_and slow (1 - on) in
    let f = bit_and fast (1 - on) in
    glow_number (glow_by on slow fast) ≡ bit_or on (bit_and f (1 - s)) + 2 * bit_xor s f + 4 * bit_and s f

stated : (on slow fast : ℕ) → on < 2 → slow < 2 → fast < 2 → Stated on slow fast
unfolding glow_by
stated on slow fast h k l =
    bits (λ on. Stated on slow fast)
    (bits (λ slow. Stated 0 slow fast) (bits (Stated 0 0) refl refl fast l) (bits (Stated 0 1) refl refl fast l) slow k)
    (bits (λ slow. Stated 1 slow fast) (bits (Stated 1 0) refl refl fast l) (bits (Stated 1 1) refl refl fast l) slow k)
    on h

-- ---- all of them
sum_of : (n : ℕ) (f a b c : ℕ → ℕ) → ((i : ℕ) → i < n → f i ≡ a i + 2 * b i + 4 * c i)
    → byte_word (tab n a) + 2 * byte_word (tab n b) + 4 * byte_word (tab n c) ≡ byte_word (tab n f)
unfolding tab byte_word
sum_of zero f a b c h = refl
sum_of (suc n) f a b c h = omega (arith, h 0 (omega arith), sum_of n (λ i. f (suc i)) (λ i. a (suc i)) (λ i. b (suc i)) (λ i. c (suc i)) (λ i l. h (suc i) (omega arith)))

module _ (on slow fast : ℕ) (h : on < 256) where
  abbrev s : ℕ
  s = bit_and slow (255 - on)

  abbrev f : ℕ
  f = bit_and fast (255 - on)

  one-led : (i : ℕ) → i < 8 → led_by on slow fast i ≡ bit (bit_or on (bit_and f (255 - s))) i + 2 * bit (bit_xor s f) i + 4 * bit (bit_and s f) i
  one-led i l =
      let small : s < 256 = omega (arith, and_le_r slow (255 - on)) in
      rw (bit_or_lem on (bit_and f (255 - s)) i, bit_and_lem f (255 - s) i, bit_off s small i l, bit_xor_lem s f i, bit_and_lem s f i, bit_and_lem slow (255 - on) i, bit_and_lem fast (255 - on) i, bit_off on h i l)
      (stated (bit on i) (bit slow i) (bit fast i) (bit_small on i) (bit_small slow i) (bit_small fast i))

  pub eight_leds : byte_word (tab 8 (bit (bit_or on (bit_and f (255 - s))))) + 2 * byte_word (tab 8 (bit (bit_xor s f))) + 4 * byte_word (tab 8 (bit (bit_and s f))) ≡ byte_word (tab 8 (led_by on slow fast))
  eight_leds = sum_of 8 (led_by on slow fast) (bit (bit_or on (bit_and f (255 - s)))) (bit (bit_xor s f)) (bit (bit_and s f)) one-led

-- ---- the bytes of such a word
back : (n : ℕ) (f : ℕ → ℕ) → ((i : ℕ) → f i < 256) → byte_list n (byte_word (tab n f)) ≡ tab n f
unfolding tab byte_word byte_list
back zero f h = refl
back (suc n) f h =
    let w = byte_word (tab n (λ k. f (suc k))) in
    let low : (f 0 + 256 * w) % 256 ≡ f 0 = omega (arith, h 0) in
    let high : (f 0 + 256 * w) / 256 ≡ w = omega (arith, h 0) in
    rw (low, high, back n (λ k. f (suc k)) (λ i. h (suc i)))

pub bytes_back : (on slow fast : ℕ) → byte_list 8 (byte_word (tab 8 (led_by on slow fast))) ≡ tab 8 (led_by on slow fast)
bytes_back on slow fast = back 8 (led_by on slow fast) (λ i. omega (arith, led_small on slow fast i))
