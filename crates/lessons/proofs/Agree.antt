-- A picture agrees with a bench: each told place is the bench's own. It stays so when the picture hears what the bench holds, and when it hears a command and the
-- bench does it. Assumes nothing.
use Prim.Native.Nat.{ℕ, suc, ◌+◌, ◌≤◌, ◌<◌}
use native.Mathlib.Omega.{arith}
use mathlib.Core.Path.{◌≡◌, refl, sym, ◌∙◌}
use mathlib.Core.Logic.{◌≢◌, ◌⊎◌, inr, ⊎_elim}
use mathlib.Core.Bool.{Bool, true, false, cond}
use mathlib.Core.List.{List, [], ◌∷◌}
use lib.Dec.{eqb, leb}
use lib.ListN.{length, length-set}
use lib.Seq.{get_or-set_same, get_or-set_other}
use borrow.Author.Tests.{eqb-true, eqb-false, ne_eqb, leb-true, leb-false}
use Rattle.places.specs.Runs.{Saying, silent, asks, tells, Run, said_from, said}
use Rattle.history.specs.Standing.{Known, told, after}
use Rattle.replies.specs.Bench.{own}
use Rattle.bench.specs.Deeds.{keep, store, done_by}

abbrev pub Agree : (ℕ → Known) → List ℕ → Type 0
Agree pic b = (p v : ℕ) → pic p ≡ told v → own b p ≡ v

abbrev pub hears : Run → (ℕ → Known) → ℕ → Known
hears r pic p = after (said r p) (pic p)

-- What a run says of the places beside it.

pub said-before : (i : ℕ) (xs : List Saying) (p : ℕ) → p < i → said_from i xs p ≡ silent
unfolding said_from
said-before i [] p h = refl
said-before i (x ∷ xs) p h = rw (ne_eqb i p (omega arith)) (said-before (suc i) xs p (omega arith))

pub said_past : (i : ℕ) (xs : List Saying) (p : ℕ) → i + length xs ≤ p → said_from i xs p ≡ silent
unfolding said_from
said_past i [] p h = refl
said_past i (x ∷ xs) p h = rw (ne_eqb i p (omega arith)) (said_past (suc i) xs p (omega arith))

-- What is stored where.

abbrev pub becomes : Saying → ℕ → ℕ
becomes silent v = v
becomes asks v = v
becomes (tells w) v = w

pub keep-length : (b : List ℕ) (i : ℕ) (x : Saying) → length (keep b i x) ≡ length b
keep-length b i silent = refl
keep-length b i asks = refl
keep-length b i (tells v) = simp length-set

pub store_length : (b : List ℕ) (i : ℕ) (xs : List Saying) → length (store b i xs) ≡ length b
unfolding store
store_length b i [] = refl
store_length b i (x ∷ xs) = store_length (keep b i x) (suc i) xs ∙ keep-length b i x

keep_same : (b : List ℕ) (i : ℕ) (x : Saying) → i < length b → own (keep b i x) i ≡ becomes x (own b i)
keep_same b i silent h = refl
keep_same b i asks h = refl
keep_same b i (tells v) h = rw get_or-set_same

keep_other : (b : List ℕ) (i : ℕ) (x : Saying) (p : ℕ) → p ≢ i → own (keep b i x) p ≡ own b p
keep_other b i silent p n = refl
keep_other b i asks p n = refl
keep_other b i (tells v) p n = rw get_or-set_other

pub store_at : (b : List ℕ) (i : ℕ) (xs : List Saying) (p : ℕ) → p < length b → own (store b i xs) p ≡ becomes (said_from i xs p) (own b p)
unfolding store said_from
store_at b i [] p h = refl
store_at b i (x ∷ xs) p h = go (eqb i p) refl (store_at (keep b i x) (suc i) xs p (rw keep-length h))
  where
    go : (c : Bool) → eqb i p ≡ c → own (store (keep b i x) (suc i) xs) p ≡ becomes (said_from (suc i) xs p) (own (keep b i x) p)
        → own (store (keep b i x) (suc i) xs) p ≡ becomes (cond c x (said_from (suc i) xs p)) (own b p)
    go true e ih = ih ∙ rw (said-before (suc i) xs p (omega (arith, eqb-true i p e)), eqb-true i p e) (keep_same b p x h)
    go false e ih = rw (← keep_other b i x p (λ q. eqb-false i p e (sym q))) ih

-- a place of which nothing is said keeps its value
pub store_silent : (b : List ℕ) (i : ℕ) (xs : List Saying) (p : ℕ) → said_from i xs p ≡ silent → own (store b i xs) p ≡ own b p
unfolding store said_from
store_silent b i [] p q = refl
store_silent b i (x ∷ xs) p q = go (eqb i p) refl q (store_silent (keep b i x) (suc i) xs p)
  where
    go : (c : Bool) → eqb i p ≡ c → cond c x (said_from (suc i) xs p) ≡ silent
        → (said_from (suc i) xs p ≡ silent → own (store (keep b i x) (suc i) xs) p ≡ own (keep b i x) p)
        → own (store (keep b i x) (suc i) xs) p ≡ own b p
    go true e q ih = ih (said-before (suc i) xs p (omega (arith, eqb-true i p e))) ∙ rw q
    go false e q ih = ih q ∙ keep_other b i x p (λ s. eqb-false i p e (sym s))

-- The picture hears what the bench holds.

abbrev pub Owns : List ℕ → Run → Type 0
Owns b r = (p v : ℕ) → said r p ≡ tells v → own b p ≡ v

pub hears-own : (b : List ℕ) (r : Run) (pic : ℕ → Known) → Owns b r → Agree pic b → Agree (hears r pic) b
unfolding after
hears-own b r pic ow ag p v e = go (said r p) (ow p) e
  where
    go : (s : Saying) → ((w : ℕ) → s ≡ tells w → own b p ≡ w) → after s (pic p) ≡ told v → own b p ≡ v
    go silent o e = ag p v e
    go asks o e = absurd (let z : ◌≡◌ {A = ℕ} 0 1 = cc in omega arith)
    go (tells w) o e = o w refl ∙ (cc)

-- The picture hears a command, and the bench does its deed: of each place the command asks, or says what the deed says.

abbrev pub Over : List Saying → List Saying → Type 0
Over [] [] = Unit {0}
Over [] (y ∷ ys) = ⊥
Over (x ∷ xs) [] = ⊥
Over (x ∷ xs) (y ∷ ys) = ((x ≡ asks) ⊎ (x ≡ y)) × Over xs ys

pub over-same : (xs : List Saying) → Over xs xs
over-same [] = tt
over-same (x ∷ xs) = (inr refl, over-same xs)

over-said : (i : ℕ) (xs ys : List Saying) (p : ℕ) → Over xs ys → (said_from i xs p ≡ asks) ⊎ (said_from i xs p ≡ said_from i ys p)
unfolding said_from
over-said i [] [] p h = inr refl
over-said i [] (y ∷ ys) p h = elim h [ ]
over-said i (x ∷ xs) [] p h = elim h [ ]
over-said i (x ∷ xs) (y ∷ ys) p h = go (eqb i p) h.0 (over-said (suc i) xs ys p h.1)
  where
    go : (c : Bool) → (x ≡ asks) ⊎ (x ≡ y) → (said_from (suc i) xs p ≡ asks) ⊎ (said_from (suc i) xs p ≡ said_from (suc i) ys p)
        → (cond c x (said_from (suc i) xs p) ≡ asks) ⊎ (cond c x (said_from (suc i) xs p) ≡ cond c y (said_from (suc i) ys p))
    go true h ih = h
    go false h ih = ih

-- a run that lies in the bytes stores what it tells
pub store_tells : (b : List ℕ) (i : ℕ) (xs : List Saying) (p v : ℕ) → i + length xs ≤ length b → said_from i xs p ≡ tells v → own (store b i xs) p ≡ v
store_tells b i xs p v h q = go (leb (length b) p) refl
  where
    go : (c : Bool) → leb (length b) p ≡ c → own (store b i xs) p ≡ v
    go true e = let l = leb-true (length b) p e in let s = said_past i xs p (omega arith) in absurd (let z : ◌≡◌ {A = ℕ} 0 1 = cc in omega arith)
    go false e = let l = leb-false (length b) p e in store_at b i xs p (omega arith) ∙ rw q

pub hears-done :
    (b : List ℕ) (r d : Run) (pic : ℕ → Known) → r.start ≡ d.start → Over r.says d.says → d.start + length d.says ≤ length b →
    Agree pic b → Agree (hears r pic) (done_by d b)
unfolding after
hears-done b r d pic s o h ag p v e =
    ⊎_elim (λ (q : said r p ≡ asks). absurd (let z : ◌≡◌ {A = ℕ} 0 1 = cc in omega arith)) (λ (q : said r p ≡ said d p). go (said d p) refl q e) (rw s (over-said d.start r.says d.says p o))
  where
    go : (x : Saying) → said d p ≡ x → said r p ≡ x → after (said r p) (pic p) ≡ told v → own (done_by d b) p ≡ v
    go silent q q' e = store_silent b d.start d.says p q ∙ ag p v (rw q' at e)
    go asks q q' e = absurd (let z : ◌≡◌ {A = ℕ} 0 1 = cc in omega arith)
    go (tells w) q q' e = store_tells b d.start d.says p w h q ∙ (cc)
