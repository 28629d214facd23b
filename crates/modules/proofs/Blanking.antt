-- Laws of places made unknown that the code's proofs cite. Assumes nothing.
use Prim.Native.Nat.{ℕ, zero, suc, ◌+◌, ◌*◌}
use native.Mathlib.Omega.{arith}
use native.Mathlib.Numerals.{add-one}
use mathlib.Core.Path.{◌≡◌, refl, ◌∙◌}
use mathlib.Core.List.{List}
use Rattle.shape.specs.Layout.{place_at}
use Rattle.places.specs.Places.{places}
use Rattle.stores.specs.Stores.{pair, blanked}

-- ---- loops that store one more with each turn
pub blanked-more :
    (b : List ℕ) (o n : ℕ) {x y : List ℕ} {v t : ℕ} →
    x ≡ blanked b o n →
    v ≡ 0 →
    t ≡ 1 →
    y ≡ pair x (o + 2 * n) v t →
    y ≡ blanked b o (n + 1)
unfolding blanked
blanked-more b o n p d e q = rw (add-one, ← p) (rw (d, e) at q)

pub blanked-none : (b : List ℕ) (o : ℕ) → b ≡ blanked b o 0
unfolding blanked
blanked-none b o = refl

-- ---- an unknown record in two halves
blanked_on : (b : List ℕ) (o m n : ℕ) → blanked (blanked b o m) (o + 2 * m) n ≡ blanked b o (m + n)
unfolding blanked
blanked_on b o m zero = let e : m + 0 ≡ m = omega arith in rw e
blanked_on b o m (suc n) =
    let e : m + suc n ≡ suc (m + n) = omega arith in
    let p : o + 2 * m + 2 * n ≡ o + 2 * (m + n) = omega arith in
    rw (e, p, blanked_on b o m n)

pub blank_halves :
    (b : List ℕ) (slot : ℕ) {x y : List ℕ} →
    x ≡ blanked b (place_at slot 0) 256 →
    y ≡ blanked x (place_at slot 256) 256 →
    y ≡ blanked b (place_at slot 0) places
blank_halves b slot p q =
    let e : place_at slot 256 ≡ place_at slot 0 + 2 * 256 = omega arith in
    q ∙ rw (p, e) (blanked_on b (place_at slot 0) 256 256)
