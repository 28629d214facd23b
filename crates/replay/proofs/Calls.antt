-- A call of `hear_part` is one part.
--     call_is_part, begins_with_none
-- Assumes nothing.
use Rattle.std.proofs.Common.{◌≡◌, ℕ, ◌+◌, ◌-◌, ◌^◌, List, ◌++◌, length, take, drop, refl, ap, ◌∙◌, arith, length-append, length-drop, take_at}
use native.Mathlib.Nat.{mod-add-mod}
use Rattle.std.specs.Prelude.{Option, Some, None}
use Rattle.replay.specs.Replay.{Run, replayed}
use Rattle.replay.specs.Window.{kept, kept_fault, fault_further, shifted, advanced, turn_over}
use Rattle.replay.specs.Parts.{next_run, one_part, stream_of}
use Rattle.replay.specs.Statements.{CallIsPart, BeginsWithNone}

-- a count that was kept, and more, is kept as their sum
kept-sum : (n m : ℕ) → kept (kept n + m) ≡ kept (n + m)
kept-sum n m = mod-add-mod n (2 ^ 64) m

kept_further : (n : ℕ) (f : Option (ℕ × ℕ)) → kept_fault (fault_further (kept n) f) ≡ kept_fault (fault_further n f)
kept_further n None = refl
kept_further n (Some f) = λ i. Some (f.0, kept-sum n f.1 i)

pub call_is_part : CallIsPart
call_is_part hear p part w room holds =
    let n : ℕ = length p.left + length part in
    let r : Run = next_run hear p part in
    let run : turn_over hear p.total.picture w (stream_of p) (length part) ≡ r = ap (replayed hear p.total.picture) holds in
    let t = p.total.replay in
    let rest : n - r.replay.at ≡ length (drop r.replay.at (p.left ++ part)) = omega (arith, length-drop r.replay.at (p.left ++ part), length-append p.left part) in (
      (λ i. advanced (stream_of p) (run i).replay n)
          ∙ (λ i. record {
            heard = kept-sum t.heard r.replay.heard i;
            refused = kept-sum t.refused r.replay.refused i;
            base = kept-sum t.at r.replay.at i;
            left = rest i;
            fault = kept_further t.at r.replay.fault i;
          }),
      ap (λ (x : Run). x.picture) run,
      ap (take (length (one_part hear p part).left)) ((λ i. shifted w (run i).replay.at n) ∙ ap (λ (l : List ℕ). drop r.replay.at l ++ drop (n - r.replay.at) w) holds)
          ∙ take_at (drop r.replay.at (p.left ++ part)) (drop (n - r.replay.at) w) (length (one_part hear p part).left) refl,
    )

pub begins_with_none : BeginsWithNone
begins_with_none b = refl
