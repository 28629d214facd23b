-- `layouts::layout::laid` meets its contract. Assumes nothing.
use mathlib.Core.Path.{refl}
use Rattle.layouts.specs.Layout.{laid_bytes}
use borrow.Author.Rules.{rules}
use Rattle.layouts.proofs.layout.laid.Goals as goal

pub returns : goal.returns
unfolding laid_bytes
returns c = refl
