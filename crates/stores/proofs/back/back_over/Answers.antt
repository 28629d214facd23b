-- `stores::back::back_over` meets its contract. Assumes nothing.
use Rattle.std.proofs.Common.{◌≡◌, ◌+◌, ◌%◌, get_or, arith, rules}
use Rattle.shape.specs.Limits.{ring}
use Rattle.shape.specs.Layout.{next_at}
use Rattle.shape.specs.Head.{next_of, before}
use Rattle.stores.specs.Stepping.{back_over}
use Rattle.stores.proofs.back.back_over.Goals as goal

pub returns : goal.returns
unfolding back_over next_of
returns c =
    let last : before (next_of c.args.picture.now) ≡ (get_or c.args.picture.now next_at 0 + 255) % 256 % ring = omega arith in
    rw (
      last,
      ← c.byte_at.ensures,
      ← c.wrapping_add_u8-last.ensures.value,
      ← c.undo.ensures,
      ← c.kept_of.ensures,
      ← c.one_fewer-fewer.ensures,
      ← c.put_at.ensures,
    )
    c.put_at-2.ensures
