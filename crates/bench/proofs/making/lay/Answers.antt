-- `bench::making::lay` meets its contract. Assumes nothing.
use Rattle.bench.proofs.Storing.{laid}
use lib.Seq.{length-take-le}
use native.Mathlib.Omega.{arith}
use mathlib.Core.Path.{refl, sym, ◌∙◌}
use borrow.Author.Rules.{rules}
use Rattle.bench.proofs.making.lay.Goals as goal

pub slice_bounds-put_bytes-end-2 : goal.slice_bounds-put_bytes-end-2
slice_bounds-put_bytes-end-2 c = sym (length-take-le 256 c.args.cells.now c.requires.1)

pub put_bytes-requires-2 : goal.put_bytes-requires-2
put_bytes-requires-2 c = rw (length-take-le 256 c.args.cells.now c.requires.1) (omega arith)

pub returns : goal.returns
returns c =
    let a = c.args in
    laid a.cells.now a.address a.version a.year a.week c.requires.1 a.bench.now c.put_bytes.new.s c.put_bytes-2.new.s c.put_at.new.s c.put_at-2.new.s c.put_at-3.new.s c.put_at-4.new.s _ _ c.requires.0 refl refl
    c.put_bytes.ensures (c.put_bytes-2.ensures ∙ rw c.cell_place.ensures) c.put_at.ensures c.put_at-2.ensures c.put_at-3.ensures c.put_at-4.ensures
