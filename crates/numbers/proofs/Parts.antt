-- A number read in a part of the input: in a first part, further on, and where a first part cuts it off.
--     number_stays               what a first part does not cut off stands in the whole
--     moved, number_moves        further on the number is the same, and a bad byte lies further on
--     cut_number, number_at_cut   what a first part gives: what the whole gives, or the end where that lies further on
--     number_past                a byte that is not too large, and not of the last group, is never bad as it stands
--     Ended, number_mends        what is cut off is a number once a byte of 1 follows
-- Assumes nothing.
use mathlib.Core.Path.{◌≡◌, refl, sym, ap, ◌∙◌}
use mathlib.Core.List.{List, [], ◌∷◌, ◌++◌}
use mathlib.Core.Bool.{Bool, true, false, cond}
use Prim.Native.Nat.{ℕ, zero, suc, ◌+◌, ◌-◌, ◌*◌, ◌/◌, ◌≤◌, ◌<◌}
use native.Mathlib.Omega.{arith}
use lib.ListN.{length, drop, length-drop}
use lib.Seq.{drop-append-le}
use lib.Dec.{ltb, eqb}
use borrow.Author.Tests.{lt-ltb, le-ltb, ne_eqb, ltb-true, ltb-false, eqb-true, eqb-false}
use Rattle.laws.proofs.Choices.{cond_elim}
use Rattle.std.specs.Prelude.{Ok, Err}
use Rattle.groups.specs.declared.scan.NumberFault.TheVariants.{Ends, Bad}
use Rattle.groups.specs.Number.{Found, joined, read_number}
use Rattle.groups.proofs.Reading.{different, groups_at, Within, number-within}

-- ---- a first part
-- a choice that is not `none` stays where what is not chosen changes, and where what is not `none` stays
cond_stays : {A : Type 0} (none : A) (t : Bool) (a b b' : A) → (cond t a b ≡ none → ⊥) → ((b ≡ none → ⊥) → b' ≡ b) → cond t a b' ≡ cond t a b
cond_stays none true a b b' f g = refl
cond_stays none false a b b' f g = g f

number_settles : (left most at : ℕ) (bs t : List ℕ) → (read_number left most at bs ≡ Err Ends → ⊥) → read_number left most at (bs ++ t) ≡ read_number left most at bs
unfolding read_number
number_settles left most at [] t f = absurd (f refl)
number_settles zero most at (b ∷ bs) t f = refl
number_settles (suc left) most at (b ∷ bs) t f =
    let m : ℕ = (most - (b - 128)) / 128 in
    cond_stays (Err Ends) (ltb most b) (Err (Bad at)) _ _ f
    (λ f₁. cond_stays (Err Ends) (ltb b 128) (Ok (b, 1)) _ _ f₁
    (λ f₂. cond_stays (Err Ends) (eqb left 0) (Err (Bad at)) _ _ f₂
    (λ f₃. ap (joined at (b - 128)) (number_settles left m (at + 1) bs t (λ e. f₃ (ap (joined at (b - 128)) e))))))

pub number_stays : (s t : List ℕ) (left most at : ℕ) (r : Found) → at ≤ length s → groups_at s left most at ≡ r → (r ≡ Err Ends → ⊥) → groups_at (s ++ t) left most at ≡ r
number_stays s t left most at r inside e some =
    ap (read_number left most at) (drop-append-le at s t inside) ∙ number_settles left most at (drop at s) t (λ n. some (sym e ∙ n)) ∙ e

-- ---- further on
abbrev pub moved : ℕ → Found → Found
moved k (Ok (v, groups)) = Ok (v, groups)
moved k (Err Ends) = Err Ends
moved k (Err (Bad p)) = Err (Bad (k + p))

-- a choice, further on
pub cond_moves : {A B : Type 0} (move : A → B) (t : Bool) (a b : A) (a' b' : B) → a' ≡ move a → b' ≡ move b → cond t a' b' ≡ move (cond t a b)
cond_moves move true a b a' b' f g = f
cond_moves move false a b a' b' f g = g

joined_moves : (k at low : ℕ) (r : Found) → joined (k + at) low (moved k r) ≡ moved k (joined at low r)
joined_moves k at low (Err Ends) = refl
joined_moves k at low (Err (Bad p)) = refl
joined_moves k at low (Ok (v, groups)) = cond_moves (moved k) (eqb v 0) (Err (Bad (at + 1))) (Ok (low + 128 * v, groups + 1)) _ _ (ap (λ (p : ℕ). Err (Bad p)) (omega arith)) refl

pub number_moves : (left most k at : ℕ) (bs : List ℕ) → read_number left most (k + at) bs ≡ moved k (read_number left most at bs)
unfolding read_number
number_moves left most k at [] = refl
number_moves zero most k at (b ∷ bs) = refl
number_moves (suc left) most k at (b ∷ bs) =
    let low : ℕ = b - 128 in
    let m : ℕ = (most - low) / 128 in
    let on : k + at + 1 ≡ k + (at + 1) = omega arith in
    cond_moves (moved k) (ltb most b) (Err (Bad at)) _ _ _ refl
    (cond_moves (moved k) (ltb b 128) (Ok (b, 1)) _ _ _ refl
    (cond_moves (moved k) (eqb left 0) (Err (Bad at)) _ _ _ refl
    (ap (λ (n : ℕ). joined (k + at) low (read_number left m n bs)) on ∙ ap (joined (k + at) low) (number_moves left m k (at + 1) bs) ∙ joined_moves k at low (read_number left m (at + 1) bs))))

-- ---- cut off
-- a number at `at`, where only the bytes before the offset `end` are read
abbrev pub cut_number : ℕ → ℕ → Found → Found
cut_number at end (Ok (v, groups)) = cond (ltb end (at + groups)) (Err Ends) (Ok (v, groups))
cut_number at end (Err Ends) = Err Ends
cut_number at end (Err (Bad p)) = cond (ltb end (p + 1)) (Err Ends) (Err (Bad p))

-- what is read from the end on is cut off
cut_whole : (left most at k end : ℕ) (r : Found) → Within left most at k r → end ≤ at → cut_number at end r ≡ Err Ends
cut_whole left most at k end (Ok (v, groups)) w h = rw (lt-ltb end (at + groups) (omega (arith, w.some)))
cut_whole left most at k end (Err Ends) w h = refl
cut_whole left most at k end (Err (Bad p)) w h = rw (lt-ltb end (p + 1) (omega arith))

joined_cut : (left most at k low end : ℕ) (r : Found) → Within left most (at + 1) k r → joined at low (cut_number (at + 1) end r) ≡ cut_number at end (joined at low r)
joined_cut left most at k low end (Err Ends) w = refl
joined_cut left most at k low end (Err (Bad p)) w = sym (cond_moves (joined at low) (ltb end (p + 1)) (Err Ends) (Err (Bad p)) _ _ refl refl)
joined_cut left most at k low end (Ok (v, groups)) w =
    sym (cond_moves (joined at low) (ltb end (at + 1 + groups)) (Err Ends) (Ok (v, groups)) _ _ refl refl) ∙ go (eqb v 0) refl
  where
    go : (t : Bool) → eqb v 0 ≡ t
        → cond (ltb end (at + 1 + groups)) (Err Ends) (cond t (Err (Bad (at + 1))) (Ok (low + 128 * v, groups + 1))) ≡ cut_number at end (cond t (Err (Bad (at + 1))) (Ok (low + 128 * v, groups + 1)))
    go true e = ap (λ (n : ℕ). cond (ltb end (at + 1 + n)) (Err Ends) (Err (Bad (at + 1)))) (w.zero_short (eqb-true v 0 e))
    go false e =
        let on : at + 1 + groups ≡ at + (groups + 1) = omega arith in
        ap (λ (n : ℕ). cond (ltb end n) (Err Ends) (Ok (low + 128 * v, groups + 1))) on

number_cut : (left most at : ℕ) (bs t : List ℕ) → read_number left most at bs ≡ cut_number at (at + length bs) (read_number left most at (bs ++ t))
unfolding read_number
number_cut left most at [] t = sym (cut_whole left most at (length t) (at + 0) (read_number left most at t) (number-within left most at t) (omega arith))
number_cut zero most at (b ∷ bs) t = rw (le-ltb (at + suc (length bs)) (at + 1) (omega arith))
number_cut (suc left) most at (b ∷ bs) t =
    let low : ℕ = b - 128 in
    let m : ℕ = (most - low) / 128 in
    let end : ℕ = at + suc (length bs) in
    let on : at + 1 + length bs ≡ end = omega arith in
    let here : ltb end (at + 1) ≡ false = le-ltb end (at + 1) (omega arith) in
    cond_moves (cut_number at end) (ltb most b) (Err (Bad at)) _ _ _ (rw here)
    (cond_moves (cut_number at end) (ltb b 128) (Ok (b, 1)) _ _ _ (rw here)
    (cond_moves (cut_number at end) (eqb left 0) (Err (Bad at)) _ _ _ (rw here)
    (ap (joined at low) (number_cut left m (at + 1) bs t ∙ ap (λ (n : ℕ). cut_number (at + 1) n (read_number left m (at + 1) (bs ++ t))) on)
    ∙ joined_cut left m at (length (bs ++ t)) low end (read_number left m (at + 1) (bs ++ t)) (number-within left m (at + 1) (bs ++ t)))))

pub number_at_cut : (s t : List ℕ) (left most at : ℕ) → at ≤ length s → groups_at s left most at ≡ cut_number at (length s) (groups_at (s ++ t) left most at)
number_at_cut s t left most at h =
    let on : at + length (drop at s) ≡ length s = omega (arith, length-drop at s) in
    number_cut left most at (drop at s) t
    ∙ (λ i. cut_number at (on i) (read_number left most at (sym (drop-append-le at s t h) i)))

-- what the first byte of a number shows: not more than that a group follows
abbrev pub Past : ℕ → Found → Type 0
Past at (Ok (v, groups)) = Unit
Past at (Err Ends) = Unit
Past at (Err (Bad p)) = at < p

joined_past : (left most at k low : ℕ) (r : Found) → Within left most (at + 1) k r → Past at (joined at low r)
joined_past left most at k low (Err Ends) w = tt
joined_past left most at k low (Err (Bad p)) w = omega arith
joined_past left most at k low (Ok (v, groups)) w = cond_elim (Past at) (eqb v 0) _ _ (λ _. omega arith) (λ _. tt)

pub number_past : (left most at b : ℕ) (bs : List ℕ) → b ≤ most → Past at (read_number (suc (suc left)) most at (b ∷ bs))
unfolding read_number
number_past left most at b bs h =
    let m : ℕ = (most - (b - 128)) / 128 in
    cond_elim (Past at) (ltb most b) _ _ (λ e. absurd (different (omega (arith, ltb-true most b e))))
    (λ _. cond_elim (Past at) (ltb b 128) _ _ (λ _. tt)
    (λ _. cond_elim (Past at) (eqb (suc left) 0) _ _ (λ e. absurd (different (omega (arith, eqb-true (suc left) 0 e))))
    (λ _. joined_past (suc left) m at (length bs) (b - 128) (read_number (suc left) m (at + 1) bs) (number-within (suc left) m (at + 1) bs))))

-- ---- mended
-- a number that is not 0, and has so many groups
abbrev pub Ended : ℕ → Found → Type 0
Ended n (Ok (v, groups)) = (0 < v) × (groups ≡ n)
Ended n (Err Ends) = ⊥
Ended n (Err (Bad p)) = ⊥

-- a choice that is `none` is the second, and where that is mended the choice is
cond_mends : {A : Type 0} (Q : A → Type 0) (none : A) (t : Bool) (a b b' : A) → (a ≡ none → ⊥) → cond t a b ≡ none → (t ≡ false → b ≡ none → Q b') → Q (cond t a b')
cond_mends Q none true a b b' some e f = absurd (some e)
cond_mends Q none false a b b' some e f = f refl e

joined_mends : (at low n : ℕ) (r r' : Found) → joined at low r ≡ Err Ends → (r ≡ Err Ends → Ended n r') → Ended (suc n) (joined at low r')
joined_mends at low n (Err (Bad p)) r' e f = absurd (different cc)
joined_mends at low n (Ok (v, groups)) r' e f = absurd (cond_elim (λ (x : Found). x ≡ Err Ends → ⊥) (eqb v 0) _ _ (λ _ q. different cc) (λ _ q. different cc) e)
joined_mends at low n (Err Ends) r' e f = by r' (f refl)
  where
    by : (r : Found) → Ended n r → Ended (suc n) (joined at low r)
    by (Err Ends) h = h
    by (Err (Bad p)) h = absurd h
    by (Ok (v, groups)) h = rw (ne_eqb v 0 (λ z. omega (arith, h.0))) (omega (arith, h.0), omega (arith, h.1))

pub number_mends : (left most at : ℕ) (bs t : List ℕ) → 0 < left → 0 < most → read_number left most at bs ≡ Err Ends → Ended (suc (length bs)) (read_number left most at (bs ++ (1 ∷ t)))
unfolding read_number
number_mends zero most at bs t some large e = absurd (different (omega arith))
number_mends (suc left) most at [] t some large e = rw (le-ltb most 1 (omega arith)) (omega arith, refl)
number_mends (suc left) most at (b ∷ bs) t some large e =
    let low : ℕ = b - 128 in
    let m : ℕ = (most - low) / 128 in
    let n : ℕ = suc (length bs) in
    cond_mends (Ended (suc n)) (Err Ends) (ltb most b) (Err (Bad at)) _ _ (λ q. different cc) e
    (λ fits e₁. cond_mends (Ended (suc n)) (Err Ends) (ltb b 128) (Ok (b, 1)) _ _ (λ q. different cc) e₁
    (λ more e₂. cond_mends (Ended (suc n)) (Err Ends) (eqb left 0) (Err (Bad at)) _ _ (λ q. different cc) e₂
    (λ another e₃. joined_mends at low n (read_number left m (at + 1) bs) (read_number left m (at + 1) (bs ++ (1 ∷ t))) e₃
    (λ q. number_mends left m (at + 1) bs t (omega (arith, eqb-false left 0 another)) (omega (arith, ltb-false most b fits, ltb-false b 128 more)) q))))
