-- `modules::entering::list_at` meets its contract. Assumes nothing.
use native.Mathlib.Numerals.{add-one}
use borrow.Author.Rules.{rules}
use Rattle.modules.specs.Records.{listed_at}
use Rattle.modules.proofs.entering.list_at.Goals as goal

pub returns : goal.returns
unfolding listed_at
returns c = rw (← c.slot_at.ensures, ← c.put_at.ensures, ← add-one c.args.slot) c.put_at-2.ensures
