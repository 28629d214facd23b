-- Bytes made 0 at the front of a list. Assumes nothing.
use Rattle.std.proofs.Common.{◌≡◌, ℕ, zero, suc, ◌++◌, ◌≤◌, List, length, drop, set, replicate, sym, ap, ◌∙◌, add-one, arith}
use Rattle.std.proofs.lemmas.List.Edits.{fill_none, fill_more}
use Rattle.steering.specs.Fresh.{zeroed}

pub zeroed_front : (b : List ℕ) (n : ℕ) → n ≤ length b → replicate n 0 ++ drop n b ≡ zeroed b n
unfolding zeroed
zeroed_front b zero h = sym (fill_none b 0)
zeroed_front b (suc n) h =
    sym (ap (λ x. set x n 0) (sym (zeroed_front b n (omega arith))) ∙ fill_more n 0 b (omega arith) ∙ rw add-one)
