-- The first line that some bytes do not meet is beyond repair, for any list of lines in the order of their bytes of which each leaves a
-- byte that is allowed whatever stands to its left.
--     first_unmet         the number of the first line that is not met, 0 where all are
--     rising             the numbers rise, behind byte m and up to byte n
--     Leaves             a byte that the line allows whatever stands to its left
--     met_all            0 exactly where all lines are met
--     Stops              where that is, behind byte m and up to byte n
--     no_choice          no later bytes help
--     mended             other bytes from there on do
-- Assumes nothing.
use Prim.Native.Nat.{ℕ, ◌+◌, ◌-◌, ◌≤◌, ◌<◌}
use native.Mathlib.Omega.{arith}
use mathlib.Core.Path.{◌≡◌, refl, sym, ap, ◌∙◌}
use mathlib.Core.Logic.{◌↔◌}
use mathlib.Core.List.{List, [], ◌∷◌, ◌++◌}
use mathlib.Core.Bool.{Bool, true, false, ◌&&◌, cond, and-false}
use lib.ListN.{length, get_or, take, length-append, get_or-append, get_or-eq_default}
use lib.Seq.{take-take, get_or-take, take_at, get_or-append-add, length-take-le}
use lib.Dec.{eqb, leb, ltb}
use borrow.Author.Tests.{ltb-true, leb-true, ltb-false, lt-ltb, le-leb, eq-eqb, ne_eqb}
use Rattle.laws.specs.Limits.{AllBytes}
use Rattle.laws.specs.Tests.{unless}
use Rattle.laws.specs.Tab.{tab}
use Rattle.laws.proofs.Tab.{length-tab, get_d_tab}
use Rattle.laws.proofs.Testing.{and_both, held, holds}
use Rattle.frame.specs.Bytes.{byte}
use Rattle.repair.specs.Allowed.{Line, keep, binds, binding_in, meets, meets_all}

abbrev pub first_unmet : List Line → List ℕ → ℕ
first_unmet [] s = 0
first_unmet (l ∷ ls) s = unless (meets s l) l.number (first_unmet ls s)

abbrev pub rising : ℕ → ℕ → List Line → Bool
rising m n [] = true
rising m n (l ∷ ls) = (ltb m l.number && leb l.number n) && rising l.number n ls

pub record Leaves (l : Line) : Type 0 where
  pub choice : ℕ
  pub small : choice < 256
  pub fits : (left : List ℕ) → l.allows left choice ≡ true

pub leaving : {l : Line} (x : ℕ) → x < 256 → ((left : List ℕ) → l.allows left x ≡ true) → Leaves l
leaving x h f = record { choice = x; small = h; fits = f }

infixr 60 ◌▸◌
pub data Each (P : Line → Type 0) : List Line → Type 0 where
  end : Each P []
  ◌▸◌ : {l : Line} {ls : List Line} → P l → Each P ls → Each P (l ∷ ls)

pub bound_each : {P : Line → Type 0} {ls : List Line} (kind c : ℕ) → Each P ls → Each P (binding_in ls kind c)
bound_each kind c end = end
bound_each {P} kind c (◌▸◌ {l} {ls} p ps) = go (binds kind c l) (bound_each kind c ps)
  where
    go : (b : Bool) → Each P (binding_in ls kind c) → Each P (keep b l (binding_in ls kind c))
    go true q = p ▸ q
    go false q = q

-- the first line's byte is behind m, and the others are behind it
pub record Rises (m n : ℕ) (l : Line) (ls : List Line) : Type 0 where
  pub above : m < l.number
  pub within : l.number ≤ n
  pub later : rising l.number n ls ≡ true

rises : (m n : ℕ) (l : Line) (ls : List Line) → rising m n (l ∷ ls) ≡ true → Rises m n l ls
rises m n l ls h =
    let g = and_both (ltb m l.number && leb l.number n) (rising l.number n ls) h in
    let b = and_both (ltb m l.number) (leb l.number n) g.0 in
    record { above = ltb-true m l.number b.0; within = leb-true l.number n b.1; later = g.1 }

-- 0 exactly where all lines are met

pub met_all : (m n : ℕ) (ls : List Line) (s : List ℕ) → rising m n ls ≡ true → (first_unmet ls s ≡ 0) ↔ (meets_all s ls ≡ true)
met_all m n [] s h = (λ e. refl, λ e. refl)
met_all m n (l ∷ ls) s h =
    let r = rises m n l ls h in
    let later = met_all l.number n ls s r.later in (
      λ e. let g = held (meets s l) l.number (first_unmet ls s) (omega arith) e in rw g.0 (later.0 g.1),
      λ e. let g = and_both (meets s l) (meets_all s ls) e in holds (meets s l) l.number (first_unmet ls s) g.0 (later.1 g.1),
    )

-- Where s stops meeting the lines: at the head, or past it. The byte is behind m and within n.

pub data Stops (n : ℕ) (s : List ℕ) : ℕ → List Line → ℕ → Type 0 where
  here : {m : ℕ} {l : Line} {ls : List Line} → Rises m n l ls → meets s l ≡ false → Stops n s m (l ∷ ls) l.number
  past : {m k : ℕ} {l : Line} {ls : List Line} → Rises m n l ls → meets s l ≡ true → Stops n s l.number ls k → Stops n s m (l ∷ ls) k

pub stops : (m n : ℕ) (ls : List Line) (s : List ℕ) → rising m n ls ≡ true → 0 < first_unmet ls s → Stops n s m ls (first_unmet ls s)
stops m n [] s h z = absurd (omega arith)
stops m n (l ∷ ls) s h z = go (meets s l) refl (rises m n l ls h) (λ h z. stops l.number n ls s h z) z
  where
    go :
        (b : Bool) →
        meets s l ≡ b →
        Rises m n l ls →
        (rising l.number n ls ≡ true → 0 < first_unmet ls s → Stops n s l.number ls (first_unmet ls s)) →
        0 < unless b l.number (first_unmet ls s) →
        Stops n s m (l ∷ ls) (unless b l.number (first_unmet ls s))
    go true q r later z = past r q (later r.later z)
    go false q r later z = here r q

pub stops_in : {n : ℕ} {s : List ℕ} {m k : ℕ} {ls : List Line} → Stops n s m ls k → (m < k) × (k ≤ n)
stops_in (here r q) = (r.above, r.within)
stops_in (past r q p) = let g = stops_in p in (omega (arith, r.above), g.1)

-- Bytes that agree up to a line's byte meet it alike.

meets-alike : (l : Line) (k : ℕ) (s t : List ℕ) → 0 < l.number → l.number ≤ k → take k t ≡ take k s → meets t l ≡ meets s l
meets-alike l k s t h₀ h e =
    let left : take (l.number - 1) t ≡ take (l.number - 1) s =
    sym (take-take (l.number - 1) k t (omega arith)) ∙ ap (take (l.number - 1)) e ∙ take-take (l.number - 1) k s (omega arith) in
    let this : byte l.number t ≡ byte l.number s =
    sym (get_or-take k t (l.number - 1) 0 (omega arith)) ∙ ap (byte l.number) e ∙ get_or-take k s (l.number - 1) 0 (omega arith) in
    λ i. l.allows (left i) (this i)

pub no_choice : {n : ℕ} {s : List ℕ} {m k : ℕ} {ls : List Line} → Stops n s m ls k → (t : List ℕ) → take k t ≡ take k s → meets_all t ls ≡ false
no_choice {s} (here {l} r q) t e = rw (meets-alike l l.number s t (omega (arith, r.above)) (omega arith) e ∙ q)
no_choice (past {l} r q p) t e = rw (no_choice p t e) (and-false (meets t l))

-- The bytes that mend: from byte k on, what each line leaves; 0 where there is none.

pub chosen : {ls : List Line} → Each Leaves ls → ℕ → ℕ
chosen end i = 0
chosen (◌▸◌ {l} p ps) i = cond (eqb i l.number) p.choice (chosen ps i)

chosen_small : {ls : List Line} (ps : Each Leaves ls) (i : ℕ) → chosen ps i < 256
unfolding chosen
chosen_small end i = omega arith
chosen_small (◌▸◌ {l} {ls} p ps) i = go (eqb i l.number) (chosen_small ps i)
  where
    go : (b : Bool) → chosen ps i < 256 → cond b p.choice (chosen ps i) < 256
    go true q = p.small
    go false q = q

-- the bytes w hold what the lines leave, behind byte m
abbrev Holds : (m n : ℕ) {ls : List Line} → Each Leaves ls → List ℕ → Type 0
Holds m n ps w = (i : ℕ) → m < i → i ≤ n → byte i w ≡ chosen ps i

passed : (m n : ℕ) {l : Line} {ls : List Line} (p : Leaves l) (ps : Each Leaves ls) (w : List ℕ) → l.number ≤ m → Holds m n (p ▸ ps) w → Holds m n ps w
unfolding chosen
passed m n {l} p ps w h q i a b = rw (ne_eqb i l.number (λ (e : i ≡ l.number). omega arith)) at (q i a b)

met_chosen : {m n : ℕ} {l : Line} {ls : List Line} (p : Leaves l) (ps : Each Leaves ls) (w : List ℕ) → Rises m n l ls → Holds m n (p ▸ ps) w → meets w l ≡ true
unfolding chosen
met_chosen {l} p ps w r q =
    let here : byte l.number w ≡ p.choice = rw (eq-eqb l.number l.number refl) at (q l.number r.above r.within) in
    ap (l.allows (take (l.number - 1) w)) here ∙ p.fits (take (l.number - 1) w)

all_chosen : (m n : ℕ) {ls : List Line} (ps : Each Leaves ls) (w : List ℕ) → rising m n ls ≡ true → Holds m n ps w → meets_all w ls ≡ true
all_chosen m n end w h q = refl
all_chosen m n (◌▸◌ {l} {ls} p ps) w h q =
    let r = rises m n l ls h in
    rw (met_chosen p ps w r q) (all_chosen l.number n ps w r.later (passed l.number n p ps w (omega arith) (λ i a b. q i (omega (arith, r.above)) b)))

-- the lines up to the first that s does not meet are met as by s, and the others by what they leave
mended_met :
    {n : ℕ} {s : List ℕ} {m k : ℕ} {ls : List Line} →
    Stops n s m ls k →
    (ps : Each Leaves ls) (w : List ℕ) →
    take (k - 1) w ≡ take (k - 1) s →
    Holds (k - 1) n ps w →
    meets_all w ls ≡ true
mended_met {n} (here {l} {ls} r q) ps w e h =
    all_chosen (l.number - 1) n ps w (rw (lt-ltb (l.number - 1) l.number (omega (arith, r.above)), le-leb l.number n r.within) r.later) h
mended_met {n} {s} {m} {k} (past {l} r q p) (o ▸ ps) w e h =
    let g = stops_in p in
    rw (meets-alike l (k - 1) s w (omega (arith, r.above)) (omega arith) e ∙ q) (mended_met p ps w e (passed (k - 1) n o ps w (omega arith) h))

-- s up to byte k − 1, then what the lines leave, as many bytes as s has
abbrev pub mended_from : {ls : List Line} → Each Leaves ls → ℕ → List ℕ → List ℕ
mended_from ps k s = take (k - 1) s ++ tab (length s - (k - 1)) (λ i. chosen ps (k + i))

module _ {ls : List Line} (ps : Each Leaves ls) (k : ℕ) (s : List ℕ) (above : 0 < k) (within : k ≤ length s) where
  front : length (take (k - 1) s) ≡ k - 1
  front = length-take-le (k - 1) s (omega arith)

  pub mended_agrees : take (k - 1) (mended_from ps k s) ≡ take (k - 1) s
  mended_agrees = take_at (take (k - 1) s) (tab (length s - (k - 1)) (λ i. chosen ps (k + i))) (k - 1) front

  pub mended_length : length (mended_from ps k s) ≡ length s
  mended_length = simp (length-append, length-tab, front) (omega arith)

  from_k : (j : ℕ) → j < length s - (k - 1) → get_or (mended_from ps k s) ((k - 1) + j) 0 ≡ chosen ps (k + j)
  from_k j h =
      ap (λ (n : ℕ). get_or (mended_from ps k s) (n + j) 0) (sym front)
      ∙ get_or-append-add (take (k - 1) s) (tab (length s - (k - 1)) (λ i. chosen ps (k + i))) j 0
      ∙ get_d_tab (length s - (k - 1)) (λ i. chosen ps (k + i)) j 0 h

  pub mended_holds : Holds (k - 1) (length s) ps (mended_from ps k s)
  mended_holds i a b =
      let p : i - 1 ≡ (k - 1) + (i - k) = omega arith in
      let q : k + (i - k) ≡ i = omega arith in
      ap (λ (n : ℕ). get_or (mended_from ps k s) n 0) p ∙ from_k (i - k) (omega arith) ∙ ap (chosen ps) q

  pub mended_bytes : AllBytes s → AllBytes (mended_from ps k s)
  mended_bytes small i = go (ltb i (k - 1)) (ltb i (length s)) refl refl
    where
      go : (a b : Bool) → ltb i (k - 1) ≡ a → ltb i (length s) ≡ b → get_or (mended_from ps k s) i 0 < 256
      go true b e f =
          let h = ltb-true i (k - 1) e in
          let q : get_or (mended_from ps k s) i 0 ≡ get_or s i 0 =
          get_or-append (take (k - 1) s) (tab (length s - (k - 1)) (λ i. chosen ps (k + i))) 0 i (omega (arith, front)) ∙ get_or-take (k - 1) s i 0 h in
          omega (arith, small i)
      go false true e f =
          let h = ltb-false i (k - 1) e in
          let g = ltb-true i (length s) f in
          let p : (k - 1) + (i - (k - 1)) ≡ i = omega arith in
          let q : get_or (mended_from ps k s) i 0 ≡ chosen ps (k + (i - (k - 1))) =
          ap (λ (n : ℕ). get_or (mended_from ps k s) n 0) (sym p) ∙ from_k (i - (k - 1)) (omega arith) in
          omega (arith, chosen_small ps (k + (i - (k - 1))))
      go false false e f =
          let g = ltb-false i (length s) f in
          omega (arith, get_or-eq_default (mended_from ps k s) 0 {n = i} (omega (arith, mended_length)))

-- bytes that mend s
pub mended :
    {m k : ℕ} {s : List ℕ} {ls : List Line} (p : Stops (length s) s m ls k) (ps : Each Leaves ls) → meets_all (mended_from ps k s) ls ≡ true
mended {k} {s} p ps =
    let g = stops_in p in
    mended_met p ps (mended_from ps k s) (mended_agrees ps k s (omega arith) g.1) (mended_holds ps k s (omega arith) g.1)
