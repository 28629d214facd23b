-- Four LEDs at once, in the four 16-bit numbers of a word.
--     lane_bits                 the bits of a byte, from its product
--     Lanes, lanes              four states, from four bits of each byte
--     led_bytes                 the bytes of such a word are the states, each with a zero behind it,
--     leds-written              and stored they are four places told
-- Assumes nothing.
use Rattle.std.proofs.Common.{◌≡◌, ℕ, zero, suc, ◌+◌, ◌-◌, ◌*◌, ◌/◌, ◌%◌, ◌^◌, ◌<◌, ◌≤◌, Bool, eqb, List, [], ◌∷◌, sym, refl, ◌∙◌, add-zero, mod-lt, arith, eqb-true}
use lib.Bits.{bit_and, and_shr, and_mod, and_le_r}
use Rattle.laws.proofs.Keys.{all_below, below}
use Rattle.frame.specs.declared.messages.Glow.{Glow}
use Rattle.frame.specs.declared.messages.Glow.TheVariants.{Off, On, Slow, Fast, VeryFast}
use Rattle.places.specs.Runs.{bit, glow_number, glow_by, led_by, tells}
use Rattle.stores.specs.Stores.{put_at, written, stored}
use Rattle.changes.specs.Lanes.{lane_word, word_bytes}

-- ---- four bits of a byte, side by side: one test of all bytes from each bit on
abbrev lane_test : ℕ → ℕ → Bool
lane_test k x = eqb (bit_and (x * 0x0000200040008001 / 2 ^ k) 0x0001000100010001) (lane_word (bit x) k)

pub lane_bits : (x : ℕ) → x < 256 → (k : ℕ) → k ≤ 4 → bit_and (x * 0x0000200040008001 / 2 ^ k) 0x0001000100010001 ≡ lane_word (bit x) k
unfolding lane_word
lane_bits x h k l = eqb-true _ _ (below (lane_test k) 256 (below (λ k. all_below (lane_test k) 256) 5 refl k (omega arith)) x h)

-- ---- one bit
pub bit_small : (x i : ℕ) → bit x i < 2
bit_small x i = omega arith

pub bit_and_lem : (a b i : ℕ) → bit (bit_and a b) i ≡ bit_and (bit a i) (bit b i)
bit_and_lem a b i = rw (and_shr a b i) (and_mod (a / 2 ^ i) (b / 2 ^ i) 1)

pub bit_off : (x : ℕ) → x < 256 → (i : ℕ) → i < 8 → bit (255 - x) i ≡ 1 - bit x i
bit_off x h i l =
    eqb-true _ _
    (below (λ i. eqb (bit (255 - x) i) (1 - bit x i)) 8
    (below (λ x. all_below (λ i. eqb (bit (255 - x) i) (1 - bit x i)) 8) 256 refl x h) i l)

pub bits : (P : ℕ → Type 0) → P 0 → P 1 → (b : ℕ) → b < 2 → P b
bits P p q zero h = p
bits P p q (suc zero) h = q
bits P p q (suc (suc n)) h = absurd (omega arith)

-- on is 1; else slow is 2 and fast 3, and both less 1
abbrev Summed : ℕ → ℕ → ℕ → Type 0
Summed on slow fast =
    let s = bit_and slow (1 - on) in
    let f = bit_and fast (1 - on) in
    glow_number (glow_by on slow fast) + bit_and s f ≡ on + 2 * s + 3 * f

summed : (on slow fast : ℕ) → on < 2 → slow < 2 → fast < 2 → Summed on slow fast
unfolding glow_by
summed on slow fast h k l =
    bits (λ on. Summed on slow fast)
    (bits (λ slow. Summed 0 slow fast) (bits (Summed 0 0) refl refl fast l) (bits (Summed 0 1) refl refl fast l) slow k)
    (bits (λ slow. Summed 1 slow fast) (bits (Summed 1 0) refl refl fast l) (bits (Summed 1 1) refl refl fast l) slow k)
    on h

-- ---- four of them
glow_small : (g : Glow) → glow_number g ≤ 4
glow_small Off = omega arith
glow_small On = omega arith
glow_small Slow = omega arith
glow_small Fast = omega arith
glow_small VeryFast = omega arith

pub led_small : (on slow fast i : ℕ) → led_by on slow fast i ≤ 4
led_small on slow fast i = glow_small (glow_by (bit on i) (bit slow i) (bit fast i))

-- the bits of slow and fast of an LED that is not on, and of both
abbrev slowly : ℕ → ℕ → ℕ
slowly on slow = bit_and slow (255 - on)

pub record Lanes (on slow fast k : ℕ) : Type 0 where
  pub small_on : lane_word (bit on) k ≤ 0x0001000100010001
  pub small_slow : lane_word (bit (slowly on slow)) k ≤ 0x0001000100010001
  pub small_fast : lane_word (bit (slowly on fast)) k ≤ 0x0001000100010001
  pub below_fast : lane_word (bit (bit_and (slowly on slow) (slowly on fast))) k ≤ lane_word (bit (slowly on fast)) k
  pub sum : lane_word (bit on) k + 2 * lane_word (bit (slowly on slow)) k + 3 * lane_word (bit (slowly on fast)) k - lane_word (bit (bit_and (slowly on slow) (slowly on fast))) k ≡ lane_word (led_by on slow fast) k

module _ (on slow fast : ℕ) (h : on < 256) where
  abbrev s : ℕ
  s = slowly on slow

  abbrev f : ℕ
  f = slowly on fast

  lane : (i : ℕ) → i < 8 → led_by on slow fast i + bit (bit_and s f) i ≡ bit on i + 2 * bit s i + 3 * bit f i
  lane i l =
      rw (bit_and_lem s f i, bit_and_lem slow (255 - on) i, bit_and_lem fast (255 - on) i, bit_off on h i l)
      (summed (bit on i) (bit slow i) (bit fast i) (bit_small on i) (bit_small slow i) (bit_small fast i))

  lane_below : (i : ℕ) → bit (bit_and s f) i ≤ bit f i
  lane_below i = rw (bit_and_lem s f i) (and_le_r (bit s i) (bit f i))

  word_small : (x k : ℕ) → lane_word (bit x) k ≤ 0x0001000100010001
  unfolding lane_word
  word_small x k = omega (arith, bit_small x k, bit_small x (k + 1), bit_small x (k + 2), bit_small x (k + 3))

  pub lanes : (k : ℕ) → k ≤ 4 → Lanes on slow fast k
  unfolding lane_word
  lanes k l = record {
    small_on = word_small on k;
    small_slow = word_small s k;
    small_fast = word_small f k;
    below_fast = omega (arith, lane_below k, lane_below (k + 1), lane_below (k + 2), lane_below (k + 3));
    sum = omega (arith, lane k (omega arith), lane (k + 1) (omega arith), lane (k + 2) (omega arith), lane (k + 3) (omega arith));
  }

-- ---- the bytes of a word, and four places
chained :
    (p q r t : ℕ) {w u v : ℕ} → p < 256 → q < 256 → r < 256 → t < 256 → w ≡ p + 65536 * u → u ≡ q + 65536 * v → v ≡ r + 65536 * t →
    word_bytes w ≡ p ∷ 0 ∷ q ∷ 0 ∷ r ∷ 0 ∷ t ∷ 0 ∷ []
chained p q r t {w} {u} {v} hp hq hr ht ew eu ev =
    let w1 : w / 65536 ≡ u = omega arith in
    let w2 : w / 16777216 ≡ u / 256 = omega arith in
    let w3 : w / 4294967296 ≡ u / 65536 = omega arith in
    let w4 : w / 1099511627776 ≡ u / 16777216 = omega arith in
    let w5 : w / 281474976710656 ≡ u / 4294967296 = omega arith in
    let w6 : w / 72057594037927936 ≡ u / 1099511627776 = omega arith in
    let u1 : u / 65536 ≡ v = omega arith in
    let u2 : u / 16777216 ≡ v / 256 = omega arith in
    let u3 : u / 4294967296 ≡ v / 65536 = omega arith in
    let u4 : u / 1099511627776 ≡ v / 16777216 = omega arith in
    let v1 : v / 65536 ≡ t = omega arith in
    let v2 : v / 16777216 ≡ 0 = omega arith in
    let d1 : w / 256 ≡ 256 * u = omega arith in
    let d2 : u / 256 ≡ 256 * v = omega arith in
    let d3 : v / 256 ≡ 256 * t = omega arith in
    let e0 : w % 256 ≡ p = omega arith in
    let e1 : 256 * u % 256 ≡ 0 = omega arith in
    let e2 : u % 256 ≡ q = omega arith in
    let e3 : 256 * v % 256 ≡ 0 = omega arith in
    let e4 : v % 256 ≡ r = omega arith in
    let e5 : 256 * t % 256 ≡ 0 = omega arith in
    let e6 : t % 256 ≡ t = omega arith in
    rw (w6, w5, w4, w3, w2, w1, u4, u3, u2, u1, v2, v1, d1, d2, d3, e0, e1, e2, e3, e4, e5, e6)

lane_bytes : (p q r t : ℕ) → p ≤ 4 → q ≤ 4 → r ≤ 4 → t ≤ 4 → word_bytes (p + 65536 * q + 4294967296 * r + 281474976710656 * t) ≡ p ∷ 0 ∷ q ∷ 0 ∷ r ∷ 0 ∷ t ∷ 0 ∷ []
lane_bytes p q r t hp hq hr ht =
    chained p q r t {w = p + 65536 * q + 4294967296 * r + 281474976710656 * t} {u = q + 65536 * (r + 65536 * t)} {v = r + 65536 * t} (omega arith) (omega arith) (omega arith) (omega arith) (omega arith) refl refl

module _ (on slow fast : ℕ) where
  abbrev led : ℕ → ℕ
  led i = led_by on slow fast i

  pub led_bytes : (k : ℕ) → word_bytes (lane_word (led_by on slow fast) k) ≡ led k ∷ 0 ∷ led (k + 1) ∷ 0 ∷ led (k + 2) ∷ 0 ∷ led (k + 3) ∷ 0 ∷ []
  unfolding lane_word
  led_bytes k = lane_bytes (led k) (led (k + 1)) (led (k + 2)) (led (k + 3)) (led_small on slow fast k) (led_small on slow fast (k + 1)) (led_small on slow fast (k + 2)) (led_small on slow fast (k + 3))

lanes-written :
    (b : List ℕ) (o p q r t : ℕ) → stored b o (p ∷ 0 ∷ q ∷ 0 ∷ r ∷ 0 ∷ t ∷ 0 ∷ []) 8 ≡ written b o (tells p ∷ tells q ∷ tells r ∷ tells t ∷ [])
unfolding stored written put_at
lanes-written b o p q r t =
    let e3 : o + 2 + 1 ≡ o + 3 = omega arith in
    let e4 : o + 2 + 2 ≡ o + 4 = omega arith in
    let e5 : o + 4 + 1 ≡ o + 5 = omega arith in
    let e6 : o + 4 + 2 ≡ o + 6 = omega arith in
    let e7 : o + 6 + 1 ≡ o + 7 = omega arith in
    simp (add-zero, e3, e4, e5, e6, e7)

pub leds-written :
    (b : List ℕ) (o on slow fast k : ℕ) {row x : List ℕ} → row ≡ word_bytes (lane_word (led_by on slow fast) k) → x ≡ stored b o row 8 →
    x ≡ written b o (tells (led_by on slow fast k) ∷ tells (led_by on slow fast (k + 1)) ∷ tells (led_by on slow fast (k + 2)) ∷ tells (led_by on slow fast (k + 3)) ∷ [])
leds-written b o on slow fast k e q =
    q ∙ rw (e, led_bytes on slow fast k) (lanes-written b o (led_by on slow fast k) (led_by on slow fast (k + 1)) (led_by on slow fast (k + 2)) (led_by on slow fast (k + 3)))
