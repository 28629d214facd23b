-- `plan::judges::right_bytes_in` meets its contract. Assumes nothing.
use mathlib.Core.Path.{sym, ap, ◌∙◌}
use lib.ListN.{length}
use Rattle.plan.specs.Replies.{memory_in}
use Rattle.plan.proofs.Replying.{starts_length, odd_wrong, too_many, even_right}
use Rattle.plan.proofs.judges.right_bytes_in.Goals as goal

pub returns-then-bytes-ne0 : goal.returns-then-bytes-ne0
returns-then-bytes-ne0 c =
    let a = c.args in
    odd_wrong (memory_in a.picture.now a.slot) a.bytes.now c.if-bytes-ne0.true

pub returns-then-n-gt-MOST_STARTS : goal.returns-then-n-gt-MOST_STARTS
returns-then-n-gt-MOST_STARTS c =
    let a = c.args in
    too_many a.picture.now a.slot a.bytes.now c.if-bytes-ne0.false c.if-n-gt-MOST_STARTS.true

pub slice_bounds-right_in-end : goal.slice_bounds-right_in-end
slice_bounds-right_in-end c = sym (ap length c.gather.ensures ∙ starts_length _)

pub returns : goal.returns
returns c =
    let a = c.args in
    even_right (memory_in a.picture.now a.slot) a.bytes.now c.if-bytes-ne0.false c.gather.ensures c.right_in.ensures
