-- Every reply tells what the bench holds. Assumes nothing.
use Prim.Native.Nat.{ℕ, zero, suc, ◌+◌, ◌-◌, ◌*◌, ◌≤◌}
use native.Mathlib.Omega.{arith}
use mathlib.Core.Path.{◌≡◌, refl, sym, ap, subst, ◌∙◌}
use mathlib.Core.Bool.{Bool, true, false, cond}
use mathlib.Core.List.{List, [], ◌∷◌, map}
use lib.Dec.{eqb}
use borrow.Author.Tests.{eqb-true}
use Rattle.laws.specs.Tab.{tab}
use Rattle.kinds.specs.Types.{vmb8ir, name_of, line_of}
use Rattle.frame.specs.declared.messages.Glow.{Glow}
use Rattle.frame.specs.declared.messages.Glow.TheVariants.{On, Slow, Fast, VeryFast}
use Rattle.frame.specs.declared.messages.Command.{Command}
use Rattle.frame.specs.declared.messages.Command.TheVariants.{TypeLong, TypeShort, Buttons, CellTold, BlockTold, CellAsked, BlockAsked, DumpAsked, CellSet, BlockSet, Errors, ErrorsAsked, NameOne, NameTwo, NameThree, NameAsked, StatusAsked, InputStatus, LedsAll, Leds, BlindStatus, BlindStop, BlindUp, BlindDown}
use Rattle.places.specs.Places.{first_character, character_place}
use Rattle.places.specs.Runs.{tells, said_from, run, telling, bit, glow_number, glow_by, led_by, meaning_of}
use Rattle.replies.specs.Leds.{one_if, ones}
use Rattle.replies.specs.Bench.{own, cell, leds}
use Rattle.replies.specs.Replies.{block, dump, name_cell, name_one, name_two, name_three, status, type_told, answers}
use Rattle.lessons.proofs.Agree.{Owns}
use Rattle.lessons.proofs.Doing.{Sound, run_of}

-- the values are the bench's own, from place i on
abbrev OwnFrom : List ℕ → ℕ → List ℕ → Type 0
OwnFrom b i [] = Unit {0}
OwnFrom b i (v ∷ vs) = (own b i ≡ v) × OwnFrom b (suc i) vs

pub owns_none : (b : List ℕ) (i : ℕ) → Owns b (run i [])
unfolding said_from
owns_none b i p v e = let z : ◌≡◌ {A = ℕ} 0 1 = cc in absurd (omega arith)

owns_each : (b : List ℕ) (i : ℕ) (vs : List ℕ) → OwnFrom b i vs → Owns b (telling i vs)
unfolding said_from
owns_each b i [] h p v e = owns_none b i p v e
owns_each b i (w ∷ vs) h p v e = go (eqb i p) refl e (owns_each b (suc i) vs h.1 p v)
  where
    go : (c : Bool) → eqb i p ≡ c → cond c (tells w) (said_from (suc i) (map tells vs) p) ≡ tells v → (said_from (suc i) (map tells vs) p ≡ tells v → own b p ≡ v) → own b p ≡ v
    go true q e ih = let s : i ≡ p = eqb-true i p q in let t : w ≡ v = cc in rw (← s) (h.0 ∙ t)
    go false q e ih = ih e

-- cells one after the other
row : List ℕ → ℕ → ℕ → ℕ → List ℕ
row b l k zero = []
row b l k (suc n) = cell b (l + k) ∷ row b l (suc k) n

row-own : (b : List ℕ) (l k n p : ℕ) → p ≡ 256 + (l + k) → OwnFrom b p (row b l k n)
unfolding row
row-own b l k zero p e = tt
row-own b l k (suc n) p e = (ap (own b) e, row-own b l (suc k) n (suc p) (omega arith))

-- Eight LED states, written as bits and read again.

one_small : (s t : Glow) (x : ℕ) → one_if s t x ≤ 1
one_small s t x = go (eqb x (glow_number s)) (eqb x (glow_number t))
  where
    go : (c d : Bool) → cond c 1 (cond d 1 0) ≤ 1
    go true d = omega arith
    go false true = omega arith
    go false false = omega arith

module _ (s t : Glow) (x₀ x₁ x₂ x₃ x₄ x₅ x₆ x₇ : ℕ) where
  eight_ones : ℕ
  eight_ones = ones s t (x₀ ∷ x₁ ∷ x₂ ∷ x₃ ∷ x₄ ∷ x₅ ∷ x₆ ∷ x₇ ∷ [])

  record Bits (n o₀ o₁ o₂ o₃ o₄ o₅ o₆ o₇ : ℕ) : Type 0 where
    b₀ : bit n 0 ≡ o₀
    b₁ : bit n 1 ≡ o₁
    b₂ : bit n 2 ≡ o₂
    b₃ : bit n 3 ≡ o₃
    b₄ : bit n 4 ≡ o₄
    b₅ : bit n 5 ≡ o₅
    b₆ : bit n 6 ≡ o₆
    b₇ : bit n 7 ≡ o₇

  bits_of : (o₀ o₁ o₂ o₃ o₄ o₅ o₆ o₇ : ℕ) → o₀ ≤ 1 → o₁ ≤ 1 → o₂ ≤ 1 → o₃ ≤ 1 → o₄ ≤ 1 → o₅ ≤ 1 → o₆ ≤ 1 → o₇ ≤ 1
      → Bits (o₀ + 2 * (o₁ + 2 * (o₂ + 2 * (o₃ + 2 * (o₄ + 2 * (o₅ + 2 * (o₆ + 2 * (o₇ + 2 * 0)))))))) o₀ o₁ o₂ o₃ o₄ o₅ o₆ o₇
  bits_of o₀ o₁ o₂ o₃ o₄ o₅ o₆ o₇ h₀ h₁ h₂ h₃ h₄ h₅ h₆ h₇ =
      record { b₀ = omega arith; b₁ = omega arith; b₂ = omega arith; b₃ = omega arith; b₄ = omega arith; b₅ = omega arith; b₆ = omega arith; b₇ = omega arith }

  one-bits : Bits eight_ones (one_if s t x₀) (one_if s t x₁) (one_if s t x₂) (one_if s t x₃) (one_if s t x₄) (one_if s t x₅) (one_if s t x₆) (one_if s t x₇)
  unfolding eight_ones ones
  one-bits =
      bits_of (one_if s t x₀) (one_if s t x₁) (one_if s t x₂) (one_if s t x₃) (one_if s t x₄) (one_if s t x₅) (one_if s t x₆) (one_if s t x₇)
      (one_small s t x₀) (one_small s t x₁) (one_small s t x₂) (one_small s t x₃) (one_small s t x₄) (one_small s t x₅) (one_small s t x₆) (one_small s t x₇)

state_back : (x : ℕ) → x ≤ 4 → glow_number (glow_by (one_if On On x) (one_if Slow VeryFast x) (one_if Fast VeryFast x)) ≡ x
unfolding glow_by
state_back zero h = refl
state_back (suc zero) h = refl
state_back (suc (suc zero)) h = refl
state_back (suc (suc (suc zero))) h = refl
state_back (suc (suc (suc (suc zero)))) h = refl
state_back (suc (suc (suc (suc (suc x))))) h = absurd (omega arith)

led_back : (on slow fast i x : ℕ) → bit on i ≡ one_if On On x → bit slow i ≡ one_if Slow VeryFast x → bit fast i ≡ one_if Fast VeryFast x → x ≤ 4 → led_by on slow fast i ≡ x
led_back on slow fast i x p q r h = rw (p, q, r) (state_back x h)

next : {x y : ℕ} {xs ys : List ℕ} → x ≡ y → xs ≡ ys → x ∷ xs ≡ y ∷ ys
next e f = rw (e, f)

leds_back : (x₀ x₁ x₂ x₃ x₄ x₅ x₆ x₇ : ℕ) → x₀ ≤ 4 → x₁ ≤ 4 → x₂ ≤ 4 → x₃ ≤ 4 → x₄ ≤ 4 → x₅ ≤ 4 → x₆ ≤ 4 → x₇ ≤ 4
    → tab 8 (led_by (eight_ones On On x₀ x₁ x₂ x₃ x₄ x₅ x₆ x₇) (eight_ones Slow VeryFast x₀ x₁ x₂ x₃ x₄ x₅ x₆ x₇) (eight_ones Fast VeryFast x₀ x₁ x₂ x₃ x₄ x₅ x₆ x₇))
    ≡ x₀ ∷ x₁ ∷ x₂ ∷ x₃ ∷ x₄ ∷ x₅ ∷ x₆ ∷ x₇ ∷ []
unfolding tab
leds_back x₀ x₁ x₂ x₃ x₄ x₅ x₆ x₇ h₀ h₁ h₂ h₃ h₄ h₅ h₆ h₇ =
    let p = one-bits On On x₀ x₁ x₂ x₃ x₄ x₅ x₆ x₇ in
    let q = one-bits Slow VeryFast x₀ x₁ x₂ x₃ x₄ x₅ x₆ x₇ in
    let r = one-bits Fast VeryFast x₀ x₁ x₂ x₃ x₄ x₅ x₆ x₇ in
    let on = eight_ones On On x₀ x₁ x₂ x₃ x₄ x₅ x₆ x₇ in
    let slow = eight_ones Slow VeryFast x₀ x₁ x₂ x₃ x₄ x₅ x₆ x₇ in
    let fast = eight_ones Fast VeryFast x₀ x₁ x₂ x₃ x₄ x₅ x₆ x₇ in
    next (led_back on slow fast 0 x₀ p.b₀ q.b₀ r.b₀ h₀)
    (next (led_back on slow fast 1 x₁ p.b₁ q.b₁ r.b₁ h₁)
    (next (led_back on slow fast 2 x₂ p.b₂ q.b₂ r.b₂ h₂)
    (next (led_back on slow fast 3 x₃ p.b₃ q.b₃ r.b₃ h₃)
    (next (led_back on slow fast 4 x₄ p.b₄ q.b₄ r.b₄ h₄)
    (next (led_back on slow fast 5 x₅ p.b₅ q.b₅ r.b₅ h₅)
    (next (led_back on slow fast 6 x₆ p.b₆ q.b₆ r.b₆ h₆)
    (next (led_back on slow fast 7 x₇ p.b₇ q.b₇ r.b₇ h₇)
    refl)))))))

-- Every reply.

abbrev pub AllOwn : List ℕ → List Command → Type 0
AllOwn b [] = Unit {0}
AllOwn b (m ∷ ms) = Owns b (run_of m) × AllOwn b ms

-- a character of a name is a cell
pub name-place : (n i : ℕ) → character_place vmb8ir (name_of vmb8ir n) (suc i) ≡ 256 + (name_cell n + i)
unfolding first_character line_of
name-place n i = omega arith

module _ (b : List ℕ) where
  block_owns : (l : ℕ) → Owns b (run_of (block b l))
  unfolding row meaning_of
  block_owns l =
      owns_each b (256 + l) (cell b l ∷ cell b (l + 1) ∷ cell b (l + 2) ∷ cell b (l + 3) ∷ []) (refl, row-own b l 1 3 (suc (256 + l)) (omega arith))

  one_owns : (n : ℕ) → Owns b (run_of (name_one b n (name_cell n)))
  unfolding row meaning_of
  one_owns n =
      let l : ℕ = name_cell n in
      rw (name-place n 0)
      (owns_each b (256 + (l + 0)) (cell b l ∷ cell b (l + 1) ∷ cell b (l + 2) ∷ cell b (l + 3) ∷ cell b (l + 4) ∷ cell b (l + 5) ∷ [])
      (ap (own b) (omega arith), row-own b l 1 5 (suc (256 + (l + 0))) (omega arith)))

  two_owns : (n : ℕ) → Owns b (run_of (name_two b n (name_cell n)))
  unfolding row meaning_of
  two_owns n =
      let l : ℕ = name_cell n in
      rw (name-place n 6) (owns_each b (256 + (l + 6)) (cell b (l + 6) ∷ cell b (l + 7) ∷ cell b (l + 8) ∷ cell b (l + 9) ∷ cell b (l + 10) ∷ cell b (l + 11) ∷ []) (row-own b l 6 6 (256 + (l + 6)) refl))

  three_owns : (n : ℕ) → Owns b (run_of (name_three b n (name_cell n)))
  unfolding row meaning_of
  three_owns n =
      let l : ℕ = name_cell n in
      rw (name-place n 12) (owns_each b (256 + (l + 12)) (cell b (l + 12) ∷ cell b (l + 13) ∷ cell b (l + 14) ∷ cell b (l + 15) ∷ []) (row-own b l 12 4 (256 + (l + 12)) refl))

  dump_owns : (l n : ℕ) → AllOwn b (dump b l n)
  unfolding dump
  dump_owns l zero = tt
  dump_owns l (suc n) = (block_owns l, dump_owns (l + 4) n)

  status_owns : Sound b → Owns b (run_of (status b))
  unfolding tab meaning_of eight_ones
  status_owns s =
      subst (λ (xs : List ℕ). Owns b (telling 2 xs)) (sym (leds_back (own b 2) (own b 3) (own b 4) (own b 5) (own b 6) (own b 7) (own b 8) (own b 9) (s.states 2 (omega arith) (omega arith)) (s.states 3 (omega arith) (omega arith)) (s.states 4 (omega arith) (omega arith)) (s.states 5 (omega arith) (omega arith)) (s.states 6 (omega arith) (omega arith)) (s.states 7 (omega arith) (omega arith)) (s.states 8 (omega arith) (omega arith)) (s.states 9 (omega arith) (omega arith))))
      (owns_each b 2 (leds b) (refl, (refl, (refl, (refl, (refl, (refl, (refl, (refl, tt)))))))))

  pub type_owns : Owns b (run_of (type_told b))
  unfolding meaning_of
  type_owns = owns_each b 0 (own b 0 ∷ own b 1 ∷ []) (refl, (refl, tt))

  pub answers-own : Sound b → (m : Command) → AllOwn b (answers b m)
  unfolding meaning_of
  answers-own s (CellAsked l) = (owns_each b (256 + l.0) (cell b l.0 ∷ []) (refl, tt), tt)
  answers-own s (BlockAsked l) = (block_owns l.0, tt)
  answers-own s (BlockSet l v w x y) = (block_owns l.0, tt)
  answers-own s DumpAsked = dump_owns 0 64
  answers-own s (NameAsked n) = (one_owns n, (two_owns n, (three_owns n, tt)))
  answers-own s (StatusAsked x) = (status_owns s, tt)
  answers-own s ErrorsAsked = (owns_none b 0, tt)
  answers-own s (TypeLong k a w c d e) = tt
  answers-own s (TypeShort k a w c) = tt
  answers-own s (Buttons a w c) = tt
  answers-own s (CellTold l v) = tt
  answers-own s (BlockTold l a w c d) = tt
  answers-own s (CellSet l v) = tt
  answers-own s (Errors a w c) = tt
  answers-own s (NameOne n a w c d e f) = tt
  answers-own s (NameTwo n a w c d e f) = tt
  answers-own s (NameThree n a w c d) = tt
  answers-own s (InputStatus a w c d) = tt
  answers-own s (LedsAll a w c) = tt
  answers-own s (Leds g x) = tt
  answers-own s (BlindStatus n a w c d e f) = tt
  answers-own s (BlindStop n) = tt
  answers-own s (BlindUp n t) = tt
  answers-own s (BlindDown n t) = tt
