-- `layouts::parts::glowing` meets its contract. Assumes nothing.
use borrow.Author.Rules.{rules}
use Rattle.layouts.proofs.parts.glowing.Goals as goal

pub returns : goal.returns
returns c = rw c.glow_number.ensures
