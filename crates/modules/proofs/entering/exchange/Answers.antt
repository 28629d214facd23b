-- `modules::entering::exchange` meets its contract. Assumes nothing.
use borrow.Author.Tests.{not-true, not-false}
use borrow.Author.Rules.{rules}
use Rattle.modules.specs.Records.{exchanged_bytes, exchanged_in}
use Rattle.modules.proofs.entering.exchange.Goals as goal

pub returns-then-not-lies : goal.returns-then-not-lies
unfolding exchanged_in
returns-then-not-lies c = rw (← c.lies.ensures, c.if-not-lies.true)

pub returns : goal.returns
unfolding exchanged_in exchanged_bytes
returns c = rw (← c.lies.ensures, c.if-not-lies.false, ← c.new_record.ensures) c.put_at.ensures
