-- A part that was heard, was heard into a whole picture.
-- Assumes nothing.
use Rattle.std.proofs.Common.{◌≡◌, ℕ, ◌≤◌, ◌+◌, List, length, Bool, true, false, cond, Result, Ok, Err, refl, arith}
use borrow.Author.Tests.{ltb-false}
use Rattle.laws.specs.Refusals.{too_short}
use Rattle.shape.specs.Layout.{size}
use Rattle.shape.specs.Head.{short}
use Rattle.replay.specs.Window.{Stream, part_answer}

pub heard_whole : (b w : List ℕ) (st heard : Stream) (n : ℕ) → ◌≡◌ {A = Result Stream ℕ} (Ok heard) (part_answer b w st n) → size ≤ length b
unfolding part_answer
heard_whole b w st heard n e = ltb-false (length b) size (go (short b) _ e)
  where
    go : (t : Bool) (rest : Result Stream ℕ) → ◌≡◌ {A = Result Stream ℕ} (Ok heard) (cond t (Err too_short) rest) → t ≡ false
    go true rest e = absurd (let z : ◌≡◌ {A = ℕ} 0 1 = cc in omega arith)
    go false rest e = refl
