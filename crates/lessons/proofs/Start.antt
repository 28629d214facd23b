-- A bench as `bench_new` makes it. Assumes nothing.
use Rattle.shape.specs.Answers.{Outcome}
use Rattle.std.specs.Prelude.{Ok, Err}
use Prim.Native.Nat.{ℕ, suc, ◌≤◌, ◌<◌}
use native.Mathlib.Omega.{arith}
use mathlib.Core.Path.{◌≡◌, refl, ◌∙◌}
use mathlib.Core.Bool.{Bool, true, false, cond}
use mathlib.Core.List.{List, [], ◌∷◌}
use lib.Dec.{eqb, leb, ltb}
use lib.ListN.{length, set, take, drop, replicate, length-set, length-replicate, get_or-replicate, get_or-append}
use lib.Seq.{sets, get_or-set_same, get_or-set_other, length-sets}
use borrow.Author.Tests.{leb-false, ltb-false}
use Rattle.laws.specs.Refusals.{type_not_known, bad_field, code_at, too_short}
use Rattle.laws.proofs.Stores.{sets_front}
use Rattle.shape.specs.Limits.{addresses}
use Rattle.shape.specs.Result.{Result}
use Rattle.shape.specs.Result as result
use Rattle.replies.specs.Bench.{bench_size, own, own_address}
use Rattle.bench.specs.Making.{named_cells, new_bench, making}
use Rattle.bench.proofs.Storing.{new_long}
use Rattle.lessons.proofs.Doing.{Sound}

pub record Made (lent : List ℕ) (address : ℕ) (cells : List ℕ) (version year week : ℕ) : Type 0 where
  pub enough : bench_size ≤ length lent
  pub named : named_cells ≤ length cells
  pub small : address < 256
  pub laid : (making lent address cells version year week).buffer ≡ sets lent 0 (new_bench address cells version year week)

pub made : (lent : List ℕ) (address : ℕ) (cells : List ℕ) (version year week : ℕ) → (making lent address cells version year week).outcome ≡ Ok tt → Made lent address cells version year week
unfolding making
made lent address cells version year week e = go (ltb (length lent) bench_size) (ltb (length cells) named_cells) (leb addresses address) (eqb address 0) refl refl refl refl e
  where
    whole : Result
    whole = result.done (sets lent 0 (new_bench address cells version year week))

    never : (n : ℕ) → ◌≡◌ {A = Outcome} (Err n) (Ok tt) → ⊥
    never n e = let z : ◌≡◌ {A = ℕ} 0 1 = cc in omega arith

    go : (x y z w : Bool) → ltb (length lent) bench_size ≡ x → ltb (length cells) named_cells ≡ y → leb addresses address ≡ z → eqb address 0 ≡ w
        → (cond x (result.refusing too_short lent) (cond y (result.refusing too_short lent) (cond z (result.refusing type_not_known lent) (cond w (result.refusing (code_at bad_field 1) lent) whole)))).outcome ≡ Ok tt
        → Made lent address cells version year week
    go true y z w p q r s e = absurd (never _ e)
    go false true z w p q r s e = absurd (never _ e)
    go false false true w p q r s e = absurd (never _ e)
    go false false false true p q r s e = absurd (never _ e)
    go false false false false p q r s e =
        record { enough = ltb-false (length lent) bench_size p; named = ltb-false (length cells) named_cells q; small = leb-false addresses address r; laid = rw (p, q, r, s) }

-- a run of stores changes nothing before it
sets_before : (vs l : List ℕ) (i p : ℕ) → p < i → own (sets l i vs) p ≡ own l p
sets_before [] l i p h = refl
sets_before (v ∷ vs) l i p h = sets_before vs (set l i v) (suc i) p (omega arith) ∙ get_or-set_other l i p v 0 (λ q. omega arith)

-- nor do the stores of the build, the address and the map version between them
beside : (l : List ℕ) (year week address version p : ℕ) → 2 ≤ p → p < 512 → own (set (set (set (set l 0 year) 1 week) 512 address) 513 version) p ≡ own l p
beside l year week address version p low high =
    get_or-set_other (set (set (set l 0 year) 1 week) 512 address) 513 p version 0 (λ q. omega arith)
    ∙ get_or-set_other (set (set l 0 year) 1 week) 512 p address 0 (λ q. omega arith)
    ∙ get_or-set_other (set l 0 year) 1 p week 0 (λ q. omega arith)
    ∙ get_or-set_other l 0 p year 0 (λ q. omega arith)

module _ (lent : List ℕ) (address : ℕ) (cells : List ℕ) (version year week : ℕ) (m : Made lent address cells version year week) where
  new : List ℕ
  new = new_bench address cells version year week

  new-size : length new ≡ bench_size
  unfolding new
  new-size = new_long cells address version year week m.named

  front : (p : ℕ) → p < bench_size → own (making lent address cells version year week).buffer p ≡ own new p
  unfolding new
  front p h =
      rw (m.laid, sets_front lent new (omega (arith, new-size, m.enough))) (get_or-append new (drop (length new) lent) 0 p (omega (arith, new-size)))

  cells-laid : List ℕ
  cells-laid = sets (replicate bench_size 0) 256 (take named_cells cells)

  off : (p : ℕ) → 2 ≤ p → p ≤ 9 → own new p ≡ 0
  unfolding new new_bench cells-laid
  off p l u =
      beside cells-laid year week address version p l (omega arith)
      ∙ sets_before (take named_cells cells) (replicate bench_size 0) 256 p (omega arith) ∙ get_or-replicate bench_size p 0 0 (omega arith)

  below : List ℕ
  below = set (set (sets (replicate bench_size 0) 256 (take named_cells cells)) 0 year) 1 week

  below_size : length below ≡ bench_size
  unfolding below
  below_size = simp (length-set, length-sets) (length-replicate {A = ℕ} bench_size 0)

  is_address : own new 512 ≡ address
  unfolding new new_bench below
  is_address = get_or-set_other (set below 512 address) 513 512 version 0 (λ q. omega arith) ∙ get_or-set_same below 512 address 0 (omega (arith, below_size))

  pub made_sound : Sound (making lent address cells version year week).buffer
  unfolding new
  made_sound =
      record {
        whole = rw (m.laid, length-sets lent 0 (new_bench address cells version year week)) m.enough;
        states = λ p l u. rw (front p (omega arith), off p l u) (omega arith);
      }

  pub made_address : own_address (making lent address cells version year week).buffer ≡ address
  made_address = front 512 (omega arith) ∙ is_address
