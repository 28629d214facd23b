-- `laws::copies::copy_in` meets its contract. Assumes nothing.
use Rattle.std.proofs.Common.{◌+◌, ◌≤◌, length, sym, ◌∙◌, arith}
use Rattle.laws.proofs.Copying.{copied_all, copied_none}
use Rattle.laws.proofs.copies.copy_in.Goals as goal
use Rattle.laws.proofs.copies.copy_in.Goals.{else-at-out-via-then-at-out+else-bytes-out, else-at-out-via-else-at-out}

pub returns-then-bytes-out : goal.returns-then-bytes-out
returns-then-bytes-out c = let a = c.args in c.copy_all.ensures ∙ sym (copied_all a.out.now a.at a.bytes.now (omega arith))

pub returns-else-at-out : goal.returns-else-at-out
returns-else-at-out c =
    let a = c.args in
    let beyond : length a.out.now + 1 ≤ a.at + length a.bytes.now = elim c.else-at-out.branch [ else-at-out-via-then-at-out+else-bytes-out w ↦ omega arith | else-at-out-via-else-at-out w ↦ omega arith ] in
    sym (copied_none a.out.now a.at a.bytes.now (omega arith))
