-- Names asked for together: the code's test of a byte is the definition's, for every type with blinds and every byte.
--     union_tested       a union of channels, by its bits
--     asked-one          a channel may be asked for alone
--     some_asked         only a type with channels can be asked
-- Assumes nothing.
use Prim.Native.Nat.{ℕ, ◌/◌, ◌%◌, ◌<◌}
use native.Mathlib.Omega.{arith}
use mathlib.Core.Path.{◌≡◌, refl}
use mathlib.Core.List.{List, [], ◌∷◌}
use mathlib.Core.Bool.{Bool, true, false, not, ◌&&◌, ◌||◌, cond}
use lib.Dec.{eqb}
use lib.ListN.{length}
use borrow.Author.Tests.{ne_eqb}
use Rattle.laws.specs.Tests.{among}
use Rattle.laws.proofs.Keys.{every, for_each, all_below, below}
use Rattle.laws.proofs.Testing.{not_both, or_right, same, same_is}
use Rattle.kinds.specs.Bits.{bits}
use Rattle.kinds.specs.Types.{Line, channels_of, blinds_of}
use Rattle.fields.specs.Fields.{channel_allowed, clear_bits, unions, asked_allowed}
use Rattle.kinds.proofs.Listed.{of-line}

-- two bits that are both set or both clear
abbrev pub alike : ℕ → Bool
alike pair = eqb pair 0 || eqb pair 3

abbrev pub tested : List ℕ → ℕ → Bool
tested channels x = not (eqb x 0) && (clear_bits channels bits x && (alike (x % 4) && alike (x / 4 % 4)))

abbrev agrees : List ℕ → ℕ → Bool
agrees channels x = same (tested channels x) (among x (unions channels))

pub union_tested : (kind x : ℕ) → (length (blinds_of kind) ≡ 0 → ⊥) → x < 256 → tested (channels_of kind) x ≡ among x (unions (channels_of kind))
union_tested kind x some h =
    same_is _ _
    (below (agrees (channels_of kind)) 256
    (or_right (eqb (length (blinds_of kind)) 0) _
    (of-line (λ (l : Line). eqb (length l.blinds) 0 || all_below (agrees l.channels) 256) refl refl kind)
    (ne_eqb (length (blinds_of kind)) 0 some))
    x h)

pub asked-one : (kind x : ℕ) → channel_allowed kind x ≡ true → asked_allowed kind x ≡ true
unfolding asked_allowed
asked-one kind x h =
    go (eqb (length (blinds_of kind)) 0)
    (of-line (λ (l : Line). eqb (length l.blinds) 0 || every (λ k. among k (unions l.channels)) l.channels) refl refl kind)
  where
    go :
        (b : Bool) → b || every (λ k. among k (unions (channels_of kind))) (channels_of kind) ≡ true →
        cond b (channel_allowed kind x) (among x (unions (channels_of kind))) ≡ true
    go true e = h
    go false e = for_each (λ k. among k (unions (channels_of kind))) (channels_of kind) e x h

pub some_asked : (kind x : ℕ) → asked_allowed kind x ≡ true → 0 < length (channels_of kind)
unfolding asked_allowed
some_asked kind x = go (eqb (length (blinds_of kind)) 0) (channels_of kind)
  where
    go : (b : Bool) (xs : List ℕ) → cond b (among x xs) (among x (unions xs)) ≡ true → 0 < length xs
    go true [] h = not_both h
    go false [] h = not_both h
    go b (y ∷ ys) h = omega arith
