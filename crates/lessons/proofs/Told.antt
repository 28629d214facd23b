-- Which places are told: after a dump every cell is, after a status frame every LED; a place that is told stays so while nothing asks for a change of it.
-- Assumes nothing.
use Prim.Native.Nat.{ℕ, zero, suc, ◌+◌, ◌-◌, ◌*◌, ◌≤◌, ◌<◌}
use native.Mathlib.Omega.{arith}
use mathlib.Core.Path.{◌≡◌, refl}
use mathlib.Core.Logic.{◌⊎◌, inl, inr}
use mathlib.Core.Bool.{Bool, true, false, cond}
use mathlib.Core.List.{List, [], ◌∷◌, map}
use lib.Dec.{eqb, ltb}
use lib.ListN.{length}
use borrow.Author.Tests.{eqb-false, ltb-true, ltb-false}
use Rattle.frame.specs.declared.messages.Command.{Command}
use Rattle.places.specs.Runs.{Saying, silent, tells, Run, said_from, said, telling, no_run, meaning_of}
use Rattle.history.specs.Standing.{Known, told, after}
use Rattle.history.specs.Asked.{count_told}
use Rattle.replies.specs.Replies.{block, dump}
use Rattle.replies.specs.Bench.{cell}
use Rattle.lessons.proofs.Doing.{run_of}
use Rattle.lessons.proofs.Heard.{heard_by}

pub record Told (k : Known) : Type 0 where
  pub value : ℕ
  pub is : k ≡ told value

pub record Says (s : Saying) : Type 0 where
  pub value : ℕ
  pub is : s ≡ tells value

-- a saying that asks for no change
abbrev Calm : Saying → Type 0
Calm s = (s ≡ silent) ⊎ Says s

says_told : (s : Saying) (k : Known) → Says s → Told (after s k)
unfolding after
says_told s k h = record { value = h.value; is = rw h.is }

calm_told : (s : Saying) (k : Known) → Calm s → Told k → Told (after s k)
unfolding after
calm_told s k (inl e) t = record { value = t.value; is = rw e t.is }
calm_told s k (inr h) t = says_told s k h

-- what a run that tells values says
pub telling_says : (i : ℕ) (vs : List ℕ) (p : ℕ) → i ≤ p → p < i + length vs → Says (said (telling i vs) p)
unfolding said_from
telling_says i [] p l u = absurd (omega arith)
telling_says i (v ∷ vs) p l u = go (eqb i p) refl (λ g. telling_says (suc i) vs p g (omega arith))
  where
    go : (c : Bool) → eqb i p ≡ c → (suc i ≤ p → Says (said_from (suc i) (map tells vs) p)) → Says (cond c (tells v) (said_from (suc i) (map tells vs) p))
    go true e ih = record { value = v; is = refl }
    go false e ih = ih (above (eqb-false i p e))
      where
        above : (i ≡ p → ⊥) → suc i ≤ p
        above n = omega arith

pub telling_calm : (i : ℕ) (vs : List ℕ) (p : ℕ) → Calm (said (telling i vs) p)
unfolding said_from
telling_calm i [] p = inl refl
telling_calm i (v ∷ vs) p = go (eqb i p) (telling_calm (suc i) vs p)
  where
    go : (c : Bool) → Calm (said_from (suc i) (map tells vs) p) → Calm (cond c (tells v) (said_from (suc i) (map tells vs) p))
    go true ih = inr (record { value = v; is = refl })
    go false ih = ih

-- runs heard one after the other
unfoldable pub runs_on_top : List Run → List Run → List Run
runs_on_top [] before = before
runs_on_top (r ∷ rs) before = runs_on_top rs (r ∷ before)

abbrev pub runs_of : List Command → List Run
runs_of ms = map run_of ms

module _ (first : Run) (p : ℕ) where
  heard_says : (r : Run) (rs : List Run) → Says (said r p) → Told (heard_by first (r ∷ rs) p)
  unfolding heard_by
  heard_says r rs h = says_told (said r p) (heard_by first rs p) h

  heard_calm : (r : Run) (rs : List Run) → Calm (said r p) → Told (heard_by first rs p) → Told (heard_by first (r ∷ rs) p)
  unfolding heard_by
  heard_calm r rs h t = calm_told (said r p) (heard_by first rs p) h t

  pub none_calm : (rs : List Run) → Told (heard_by first rs p) → Told (heard_by first (no_run ∷ rs) p)
  unfolding said_from
  none_calm rs t = heard_calm no_run rs (inl refl) t

  module _ (b : List ℕ) where
    block_run : (l : ℕ) → List ℕ
    block_run l = cell b l ∷ cell b (l + 1) ∷ cell b (l + 2) ∷ cell b (l + 3) ∷ []

    block-is : (l : ℕ) → run_of (block b l) ≡ telling (256 + l) (block_run l)
    unfolding meaning_of block_run
    block-is l = refl

    dump-stays : (n l : ℕ) (rs : List Run) → Told (heard_by first rs p) → Told (heard_by first (runs_on_top (runs_of (dump b l n)) rs) p)
    unfolding dump runs_on_top
    dump-stays zero l rs t = t
    dump-stays (suc n) l rs t =
        dump-stays n (l + 4) (run_of (block b l) ∷ rs) (heard_calm (run_of (block b l)) rs (rw (block-is l) (telling_calm (256 + l) (block_run l) p)) t)

    pub dump_tells : (n l : ℕ) (rs : List Run) → 256 + l ≤ p → p < 256 + l + 4 * n → Told (heard_by first (runs_on_top (runs_of (dump b l n)) rs) p)
    unfolding dump runs_on_top block_run
    dump_tells zero l rs low high = absurd (omega arith)
    dump_tells (suc n) l rs low high = go (ltb p (256 + l + 4)) refl (dump_tells n (l + 4) (run_of (block b l) ∷ rs))
      where
        four : p < 256 + l + 4 → p < 256 + l + length (block_run l)
        four h = h

        go : (c : Bool) → ltb p (256 + l + 4) ≡ c
            → (256 + (l + 4) ≤ p → p < 256 + (l + 4) + 4 * n → Told (heard_by first (runs_on_top (runs_of (dump b (l + 4) n)) (run_of (block b l) ∷ rs)) p))
            → Told (heard_by first (runs_on_top (runs_of (dump b (l + 4) n)) (run_of (block b l) ∷ rs)) p)
        go true e ih =
            dump-stays n (l + 4) (run_of (block b l) ∷ rs)
            (heard_says (run_of (block b l)) rs (rw (block-is l) (telling_says (256 + l) (block_run l) p low (four (ltb-true p (256 + l + 4) e)))))
        go false e ih = let h = ltb-false p (256 + l + 4) e in ih (omega arith) (omega arith)

  -- a run of places that are told: those in it, and those beside it, which stay
  pub row_tells : (i : ℕ) (vs : List ℕ) (rs : List Run) → i ≤ p → p < i + length vs → Told (heard_by first (telling i vs ∷ rs) p)
  row_tells i vs rs l u = heard_says (telling i vs) rs (telling_says i vs p l u)

  pub row_stays : (i : ℕ) (vs : List ℕ) (rs : List Run) → Told (heard_by first rs p) → Told (heard_by first (telling i vs ∷ rs) p)
  row_stays i vs rs t = heard_calm (telling i vs) rs (telling_calm i vs p) t

-- all that are told are counted
pub counts_all : (n : ℕ) (known : ℕ → Known) → ((i : ℕ) → i < n → Told (known i)) → count_told n known ≡ n
unfolding count_told
counts_all zero known h = refl
counts_all (suc n) known h = rw (counts_all n known (λ i g. h i (omega arith)), (h n (omega arith)).is) (omega arith)
