-- What is written reads back, what is read is spelt so, and what is read where less is allowed is read where more is.
--     bytes_read                        a number's bytes read back as the number, of as many groups as hold it
--     read_at                           the same at an offset of the input
--     more_groups                       the bytes of a number are the same, however many groups more are allowed
--     numbers_read_back, read_is_spelt, more_is_allowed    the statements
-- Assumes nothing.
use mathlib.Core.Path.{◌≡◌, refl, sym, ap, subst, ◌∙◌}
use mathlib.Core.List.{List, [], ◌∷◌, ◌++◌}
use mathlib.Core.Bool.{Bool, true, false, cond}
use Prim.Native.Nat.{ℕ, zero, suc, ◌+◌, ◌-◌, ◌*◌, ◌/◌, ◌%◌, ◌≤◌, ◌<◌}
use native.Mathlib.Omega.{arith}
use lib.ListN.{length, drop}
use lib.Seq.{drop-drop, drop-append_seam, get_or-drop}
use lib.Dec.{ltb, eqb}
use borrow.Author.Tests.{lt-ltb, le-ltb, ne_eqb, ltb-true, ltb-false, eqb-false}
use Rattle.laws.specs.Limits.{AllBytes}
use Rattle.laws.proofs.Choices.{cond_elim}
use Rattle.laws.proofs.Testing.{not_both}
use Rattle.std.specs.Prelude.{Ok, Err}
use Rattle.groups.specs.declared.scan.NumberFault.TheVariants.{Ends, Bad}
use Rattle.groups.specs.Number.{Found, most_groups, number_bytes, bytes_of, groups_of, joined, read_number, number_at}
use Rattle.numbers.specs.Statements.{is_bad, most64, NumbersReadBack, ReadIsSpelt, MoreIsAllowed}
use Rattle.groups.proofs.Reading.{step, number-head, value_at_lem}
use Rattle.groups.proofs.Writing.{bytes_last, bytes_more, bytes_length, holds, groups_hold, groups_rise}

-- ---- written and read
-- the bytes of a number are the same, however many more groups are allowed than hold it
pub more_groups : (left more v : ℕ) → 0 < left → left ≤ more → v < holds left → number_bytes left v ≡ number_bytes more v
unfolding number_bytes
more_groups zero more v some h fits = absurd (omega arith)
more_groups (suc left) zero v some h fits = absurd (omega arith)
more_groups (suc zero) (suc more) v some h fits = rw (lt-ltb v 128 fits)
more_groups (suc (suc left)) (suc more) v some h fits =
    ap (λ (l : List ℕ). cond (ltb v 128) (v ∷ []) ((v % 128 + 128) ∷ l)) (more_groups (suc left) more (v / 128) (omega arith) (omega arith) (omega arith))

pub bytes_read : (left most at v : ℕ) (q : List ℕ) → v ≤ most → v < holds left → (left ≡ 0 → ⊥)
    → read_number left most at (number_bytes left v ++ q) ≡ Ok (v, length (number_bytes left v))
unfolding step
bytes_read zero most at v q hm hv some = absurd (some refl)
bytes_read (suc left) most at v q hm hv some = go (ltb v 128) refl (bytes_read left)
  where
    go : (t : Bool) → ltb v 128 ≡ t
        → ((m at w : ℕ) (q : List ℕ) → w ≤ m → w < holds left → (left ≡ 0 → ⊥) → read_number left m at (number_bytes left w ++ q) ≡ Ok (w, length (number_bytes left w)))
        → read_number (suc left) most at (number_bytes (suc left) v ++ q) ≡ Ok (v, length (number_bytes (suc left) v))
    go true e again =
        let h : v < 128 = ltb-true v 128 e in
        rw (bytes_last (suc left) v some h) (number-head left most at v q ∙ (rw (le-ltb most v hm, e)))
    go false e again =
        let h : 128 ≤ v = ltb-false v 128 e in
        let b : ℕ = v % 128 + 128 in
        let low : ℕ = b - 128 in
        let m : ℕ = (most - low) / 128 in
        let rest : List ℕ = number_bytes left (v / 128) in
        let more : left ≡ 0 → ⊥ = λ e. let z : holds left ≡ 1 = ap holds e in omega arith in
        let value : low + 128 * (v / 128) ≡ v = omega arith in
        let count : length rest + 1 ≡ suc (length rest) = omega arith in
        let spelt : number_bytes (suc left) v ≡ b ∷ rest = bytes_more (suc left) v some h ∙ ap (λ (n : ℕ). b ∷ number_bytes n (v / 128)) (omega arith) in
        let carried : joined at low (Ok (v / 128, length rest)) ≡ Ok (v, suc (length rest)) = rw (ne_eqb (v / 128) 0 (λ z. omega arith)) (λ i. Ok (value i, count i)) in
        ap (λ (l : List ℕ). read_number (suc left) most at (l ++ q)) spelt
        ∙ number-head left most at b (rest ++ q)
        ∙ (rw (le-ltb most b (omega arith), le-ltb b 128 (omega arith), ne_eqb left 0 more)
        (ap (joined at low) (again m (at + 1) (v / 128) q (omega arith) (omega arith) more) ∙ carried))
        ∙ ap (λ (l : List ℕ). Ok (v, length l)) (sym spelt)

-- where a number's bytes stand at `at`, and q after them, it is read
pub read_at : (s : List ℕ) (at v most : ℕ) (q : List ℕ) → v ≤ most → most ≤ most64 → drop at s ≡ bytes_of v ++ q → number_at s at most ≡ Ok (v, groups_of v)
read_at s at v most q fits small here =
    let held = groups_hold most_groups most (omega arith) (omega arith) in
    let left : ℕ = groups_of most in
    let same : number_bytes left v ≡ bytes_of v = more_groups left most_groups v held.0 (bytes_length most_groups most) (omega (arith, held.1)) in
    ap (read_number left most at) (here ∙ ap (λ (l : List ℕ). l ++ q) (sym same))
    ∙ bytes_read left most at v q fits (omega (arith, held.1)) (λ e. omega (arith, held.0)) ∙ ap (λ (l : List ℕ). Ok (v, length l)) same

pub numbers_read_back : NumbersReadBack
numbers_read_back before after v most fits small = read_at (before ++ (bytes_of v ++ after)) (length before) v most after fits small (drop-append_seam before (bytes_of v ++ after))

-- ---- read and written
-- the bytes begin with those of the number that was read
abbrev Spelt : ℕ → List ℕ → Found → Type 0
Spelt left bs (Ok (v, groups)) = bs ≡ number_bytes left v ++ drop groups bs
Spelt left bs (Err Ends) = Unit
Spelt left bs (Err (Bad p)) = Unit

joined_spelt : (left at b : ℕ) (bs : List ℕ) → 128 ≤ b → b < 256 → (r : Found) → Spelt left bs r → Spelt (suc left) (b ∷ bs) (joined at (b - 128) r)
joined_spelt left at b bs hb lb (Err Ends) h = tt
joined_spelt left at b bs hb lb (Err (Bad p)) h = tt
joined_spelt left at b bs hb lb (Ok (v, groups)) h =
    cond_elim (Spelt (suc left) (b ∷ bs)) (eqb v 0) _ _ (λ _. tt)
    (λ z.
    let nonzero : v ≡ 0 → ⊥ = eqb-false v 0 z in
    let x : ℕ = b - 128 + 128 * v in
    let e₁ : x % 128 + 128 ≡ b = omega arith in
    let e₂ : x / 128 ≡ v = omega arith in
    let e₃ : groups + 1 ≡ suc groups = omega arith in
    let left_is : suc left - 1 ≡ left = omega arith in
    let spelt : number_bytes (suc left) x ≡ b ∷ number_bytes left v = bytes_more (suc left) x (λ e. omega arith) (omega arith) ∙ (λ i. e₁ i ∷ number_bytes (left_is i) (e₂ i)) in
    ap (λ (l : List ℕ). b ∷ l) h ∙ (λ i. sym spelt i ++ drop (sym e₃ i) (b ∷ bs)))

number_spelt : (left most at : ℕ) (bs : List ℕ) → AllBytes bs → Spelt left bs (read_number left most at bs)
unfolding read_number
number_spelt left most at [] by = tt
number_spelt zero most at (b ∷ bs) by = tt
number_spelt (suc left) most at (b ∷ bs) by =
    let P : Found → Type 0 = Spelt (suc left) (b ∷ bs) in
    let m : ℕ = (most - (b - 128)) / 128 in
    cond_elim P (ltb most b) _ _ (λ _. tt)
    (λ _. cond_elim P (ltb b 128) _ _
    (λ l. λ i. sym (bytes_last (suc left) b (λ e. omega arith) (ltb-true b 128 l)) i ++ drop 1 (b ∷ bs))
    (λ l. cond_elim P (eqb left 0) _ _ (λ _. tt)
    (λ _. joined_spelt left at b bs (ltb-false b 128 l) (by 0) (read_number left m (at + 1) bs) (number_spelt left m (at + 1) bs (λ i. by (suc i))))))

pub read_is_spelt : ReadIsSpelt
read_is_spelt s by at most small v groups e =
    let held = groups_hold most_groups most (omega arith) (omega arith) in
    let left : ℕ = groups_of most in
    let fits = value_at_lem left most at s (Ok (v, groups)) v groups (sym e) refl in
    let same : number_bytes left v ≡ bytes_of v = more_groups left most_groups v held.0 (bytes_length most_groups most) (omega (arith, held.1, fits.small)) in
    let by' : AllBytes (drop at s) = λ i. subst (λ (n : ℕ). n < 256) (sym (get_or-drop at s i 0)) (by (at + i)) in
    let h : Spelt left (drop at s) (Ok (v, groups)) = subst (Spelt left (drop at s)) e (number_spelt left most at (drop at s) by') in
    h ∙ (λ i. same i ++ drop-drop groups at s i)

-- ---- less and more allowed
unbad : (t : Bool) (p : ℕ) (r : Found) → is_bad (cond t (Err (Bad p)) r) ≡ false → (t ≡ false) × (is_bad r ≡ false)
unbad true p r e = not_both (sym e)
unbad false p r e = (refl, e)

joined_unbad : (at low : ℕ) (r : Found) → is_bad (joined at low r) ≡ false → is_bad r ≡ false
joined_unbad at low (Ok (v, groups)) e = refl
joined_unbad at low (Err Ends) e = refl
joined_unbad at low (Err (Bad p)) e = e

cond_grows : (t : Bool) (x y y' : Found) → is_bad (cond t x y') ≡ false → (is_bad y' ≡ false → y ≡ y') → cond t x y ≡ cond t x y'
cond_grows true x y y' e f = refl
cond_grows false x y y' e f = f e

number_grows : (left more m n at : ℕ) (bs : List ℕ) → left ≤ more → m ≤ n → is_bad (read_number left m at bs) ≡ false → read_number more n at bs ≡ read_number left m at bs
unfolding read_number
number_grows left more m n at [] h l e = refl
number_grows zero more m n at (b ∷ bs) h l e = not_both (sym e)
number_grows (suc left) zero m n at (b ∷ bs) h l e = absurd (omega arith)
number_grows (suc left) (suc more) m n at (b ∷ bs) h l e =
    let low : ℕ = b - 128 in
    let first = unbad (ltb m b) at _ e in
    let fits : b ≤ m = ltb-false m b first.0 in
    rw (le-ltb n b (omega arith), le-ltb m b fits)
    (cond_grows (ltb b 128) (Ok (b, 1)) _ _ first.1
    (λ e₂.
    let second = unbad (eqb left 0) at _ e₂ in
    let some : left ≡ 0 → ⊥ = eqb-false left 0 second.0 in
    rw (ne_eqb more 0 (λ z. some (omega arith)), ne_eqb left 0 some)
    (ap (joined at low)
    (number_grows left more ((m - low) / 128) ((n - low) / 128) (at + 1) bs (omega arith) (omega arith) (joined_unbad at low (read_number left ((m - low) / 128) (at + 1) bs) second.1)))))

pub more_is_allowed : MoreIsAllowed
more_is_allowed s at less more h e = number_grows (groups_of less) (groups_of more) less more at (drop at s) (groups_rise most_groups less more h) h e
