-- `reads::blocks::start_for` meets its contract. Assumes nothing.
use borrow.Author.Rules.{rules}
use native.Mathlib.Omega.{arith}
use Rattle.reads.proofs.blocks.start_for.Goals as goal

pub returns-then-last-cell : goal.returns-then-last-cell
returns-then-last-cell c = omega arith

pub returns-else-last-cell : goal.returns-else-last-cell
returns-else-last-cell c = omega arith
