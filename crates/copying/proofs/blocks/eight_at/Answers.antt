-- `copying::blocks::eight_at` meets its contract. Assumes nothing.
use mathlib.Core.Path.{refl}
use Rattle.copying.proofs.Runs.{eight_taken}
use borrow.Author.Rules.{rules}
use Rattle.copying.proofs.blocks.eight_at.Goals as goal

pub returns : goal.returns
returns c = (eight_taken _ _ c.requires, refl)
