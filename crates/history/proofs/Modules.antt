-- The list of modules: what is found at each address after a module is changed in its slot or entered at the end, and what undoes that.
-- Assumes nothing.
use Prim.Native.Nat.{ℕ, zero, suc, ◌<◌}
use mathlib.Core.Path.{◌≡◌, refl, sym, ap, ◌∙◌}
use mathlib.Core.Bool.{Bool, true, false, cond}
use mathlib.Core.List.{List, [], ◌∷◌, ◌++◌}
use mathlib.Core.Option.{none, some}
use native.Mathlib.Omega.{arith}
use lib.Dec.{eqb}
use lib.ListN.{length, get_or, set}
use borrow.Author.Tests.{eqb-true, eqb-false}
use Rattle.history.specs.Standing.{address}
use Rattle.history.specs.Machine.{Module, find, slot, nobody, but_last}

-- two tests in a row: the same one, and two that do not both pass
cond_again : {A : Type 0} (c : Bool) (x y z : A) → cond c x z ≡ cond c x (cond c y z)
cond_again true x y z = refl
cond_again false x y z = refl

cond_swap : {A : Type 0} (c d : Bool) (x y z : A) → (c ≡ true → d ≡ true → ⊥) → cond d y (cond c x z) ≡ cond c x (cond d y z)
cond_swap true true x y z n = absurd (n refl refl)
cond_swap true false x y z n = refl
cond_swap false d x y z n = refl

test_again : {A : Type 0} (x y a b : ℕ) (u v z : A) → x ≡ a → y ≡ a → cond (eqb x b) u z ≡ cond (eqb a b) u (cond (eqb y b) v z)
test_again x y a b u v z p q = rw (p, q) (cond_again (eqb a b) u v z)

apart : (x a b : ℕ) → eqb x a ≡ false → eqb a b ≡ true → eqb x b ≡ true → ⊥
apart x a b n p q = eqb-false x a n (eqb-true x b q ∙ sym (eqb-true a b p))

pub none_some : {A : Type 0} {x : A} → none ≡ some x → ⊥
none_some e = let z : ◌≡◌ {A = ℕ} 0 1 = cc in omega arith

-- the module in the slot of an address is the one found there
pub find-slot : (ms : List Module) (a : ℕ) (m : Module) → find ms a ≡ some m → get_or ms (slot ms a) nobody ≡ m
unfolding find slot
find-slot [] a m e = absurd (none_some e)
find-slot (n ∷ ms) a m e = go (eqb n.address a) e (find-slot ms a m)
  where
    go : (c : Bool) → cond c (some n) (find ms a) ≡ some m → (find ms a ≡ some m → get_or ms (slot ms a) nobody ≡ m) → get_or (n ∷ ms) (cond c zero (suc (slot ms a))) nobody ≡ m
    go true e ih = cc
    go false e ih = ih e

pub slot_lt : (ms : List Module) (a : ℕ) (m : Module) → find ms a ≡ some m → slot ms a < length ms
unfolding find slot
slot_lt [] a m e = absurd (none_some e)
slot_lt (n ∷ ms) a m e = go (eqb n.address a) e (slot_lt ms a m)
  where
    go : (c : Bool) → cond c (some n) (find ms a) ≡ some m → (find ms a ≡ some m → slot ms a < length ms) → cond c zero (suc (slot ms a)) < suc (length ms)
    go true e ih = omega arith
    go false e ih = let h : slot ms a < length ms = ih e in omega arith

-- ... and has that address
pub find-address : (ms : List Module) (a : ℕ) (m : Module) → find ms a ≡ some m → m.address ≡ a
unfolding find
find-address [] a m e = absurd (none_some e)
find-address (n ∷ ms) a m e = go (eqb n.address a) refl e (find-address ms a m)
  where
    go : (c : Bool) → eqb n.address a ≡ c → cond c (some n) (find ms a) ≡ some m → (find ms a ≡ some m → m.address ≡ a) → m.address ≡ a
    go true t e ih = let q = eqb-true n.address a t in let o : n ≡ m = cc in rw (← o) q
    go false t e ih = ih e

-- another module of that address in the slot is found there, and elsewhere all stays
pub find-set : (ms : List Module) (a : ℕ) (m m' : Module) → find ms a ≡ some m → m'.address ≡ a → (b : ℕ) → find (set ms (slot ms a) m') b ≡ cond (eqb a b) (some m') (find ms b)
unfolding find slot
find-set [] a m m' e q b = absurd (none_some e)
find-set (n ∷ ms) a m m' e q b = go (eqb n.address a) refl e (λ h. find-set ms a m m' h q b)
  where
    go : (c : Bool) → eqb n.address a ≡ c → cond c (some n) (find ms a) ≡ some m
        → (find ms a ≡ some m → find (set ms (slot ms a) m') b ≡ cond (eqb a b) (some m') (find ms b))
        → find (set (n ∷ ms) (cond c zero (suc (slot ms a))) m') b ≡ cond (eqb a b) (some m') (cond (eqb n.address b) (some n) (find ms b))
    go true t e ih = test_again m'.address n.address a b (some m') (some n) (find ms b) q (eqb-true n.address a t)
    go false t e ih = rw (ih e) (cond_swap (eqb a b) (eqb n.address b) (some m') (some n) (find ms b) (apart n.address a b t))

-- a module entered at an address where none is
pub find-append : (ms : List Module) (m : Module) → find ms m.address ≡ none → (b : ℕ) → find (ms ++ (m ∷ [])) b ≡ cond (eqb m.address b) (some m) (find ms b)
unfolding find
find-append [] m e b = refl
find-append (n ∷ ms) m e b = go (eqb n.address m.address) refl e (λ h. find-append ms m h b)
  where
    go : (c : Bool) → eqb n.address m.address ≡ c → cond c (some n) (find ms m.address) ≡ none
        → (find ms m.address ≡ none → find (ms ++ (m ∷ [])) b ≡ cond (eqb m.address b) (some m) (find ms b))
        → find ((n ∷ ms) ++ (m ∷ [])) b ≡ cond (eqb m.address b) (some m) (find (n ∷ ms) b)
    go true t e ih = absurd (none_some (sym e))
    go false t e ih = rw (ih e) (cond_swap (eqb m.address b) (eqb n.address b) (some m) (some n) (find ms b) (apart n.address m.address b t))

pub but_last-append : (ms : List Module) (m : Module) → but_last (ms ++ (m ∷ [])) ≡ ms
unfolding but_last
but_last-append [] m = refl
but_last-append (n ∷ []) m = refl
but_last-append (n ∷ (k ∷ ms)) m = ap {B = List Module} (λ l. n ∷ l) (but_last-append (k ∷ ms) m)
