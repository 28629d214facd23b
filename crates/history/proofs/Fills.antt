-- A buffer filled from its beginning is the row of what was stored, over what lay there. Assumes nothing.
use Prim.Native.Nat.{ℕ, ◌+◌, ◌-◌, ◌<◌, ◌≤◌}
use native.Mathlib.Omega.{arith}
use native.Mathlib.Nat.{zero-add}
use mathlib.Core.Path.{◌≡◌, refl, sym, ap, ◌∙◌}
use mathlib.Core.Bool.{Bool, true, false, cond}
use mathlib.Core.List.{List}
use lib.Dec.{ltb, leb}
use lib.ListN.{length, get_or, drop, length-append, length-drop, get_or-append}
use lib.Seq.{ext_get_or, get_or-drop, get_or-append-add}
use borrow.Author.Tests.{ltb-true, ltb-false, leb-true}
use Rattle.laws.specs.Refusals.{too_short}
use Rattle.laws.specs.Tab.{tab}
use Rattle.laws.proofs.Tab.{length-tab, get_d_tab, tab_ext}
use Rattle.questions.specs.Question.{value, refusing}
use Rattle.questions.specs.Fills.{filled_to, filling}
use Rattle.history.specs.Asked.{over, over_row}
use Rattle.history.proofs.Stores.{laid-within, laid_at, filled_lays}

module _ (f : ℕ → ℕ) (out : List ℕ) where
  to_length : (n : ℕ) → length (filled_to f out n) ≡ length out
  to_length n = (laid-within (filled_lays f out) n).long

  to_above : (n i : ℕ) → n ≤ i → get_or (filled_to f out n) i 0 ≡ get_or out i 0
  to_above n i h = (laid-within (filled_lays f out) n).outside i (λ p q. omega arith)

  to_below : (n i : ℕ) → i < n → n ≤ length out → get_or (filled_to f out n) i 0 ≡ f i
  to_below n i h l = rw zero-add at (laid_at (filled_lays f out) n i h (omega arith))

  over-length : (n : ℕ) → n ≤ length out → length (over (tab n f) out) ≡ length out
  over-length n l = simp (length-append, length-drop, length-tab) (omega arith)

  over_below : (n i : ℕ) → i < n → get_or (over (tab n f) out) i 0 ≡ f i
  over_below n i h = get_or-append (tab n f) (drop (length (tab n f)) out) 0 i (rw length-tab h) ∙ get_d_tab n f i 0 h

  over_above : (n i : ℕ) → n ≤ i → get_or (over (tab n f) out) i 0 ≡ get_or out i 0
  over_above n i h =
      let q : i ≡ length (tab n f) + (i - n) = omega (arith, length-tab n f) in
      ap (λ (j : ℕ). get_or (over (tab n f) out) j 0) q
      ∙ get_or-append-add (tab n f) (drop (length (tab n f)) out) (i - n) 0
      ∙ get_or-drop (length (tab n f)) out (i - n) 0
      ∙ ap (λ (j : ℕ). get_or out j 0) (sym q)

  filled-over : (n : ℕ) → n ≤ length out → filled_to f out n ≡ over (tab n f) out
  filled-over n l =
      ext_get_or 0 (filled_to f out n) (over (tab n f) out) (to_length n ∙ sym (over-length n l)) (λ i h. go i (ltb i n) refl)
    where
      go : (i : ℕ) (c : Bool) → ltb i n ≡ c → get_or (filled_to f out n) i 0 ≡ get_or (over (tab n f) out) i 0
      go i true e = let h = ltb-true i n e in to_below n i h l ∙ sym (over_below n i h)
      go i false e = let h = ltb-false i n e in to_above n i h ∙ sym (over_above n i h)

pub filling-over : (v : ℕ) (f g : ℕ → ℕ) (n : ℕ) (out : List ℕ) → ((i : ℕ) → i < n → f i ≡ g i) → filling v f n out ≡ over_row v (tab n g) out
unfolding filling over_row
filling-over v f g n out h =
    go (leb n (length out)) refl
    ∙ ap (λ (k : ℕ). cond (leb k (length out)) (value v (over (tab n g) out)) (refusing too_short out)) (sym (length-tab n g))
  where
    go : (c : Bool) → leb n (length out) ≡ c → cond c (value v (filled_to f out n)) (refusing too_short out) ≡ cond c (value v (over (tab n g) out)) (refusing too_short out)
    go true e = ap (value v) (filled-over f out n (leb-true n (length out) e) ∙ ap (λ (row : List ℕ). over row out) (tab_ext n f g h))
    go false e = refl
