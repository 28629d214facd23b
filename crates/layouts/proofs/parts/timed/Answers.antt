-- `layouts::parts::timed` meets its contract. Assumes nothing.
use borrow.Author.Rules.{rules}
use Rattle.layouts.proofs.parts.timed.Goals as goal

pub returns : goal.returns
returns c = rw (c.time_seconds.ensures, c.time_number.ensures)
