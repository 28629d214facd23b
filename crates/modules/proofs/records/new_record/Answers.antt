-- `modules::records::new_record` meets its contract. Assumes nothing.
use borrow.Author.Rules.{rules}
use Rattle.modules.specs.Records.{new_record}
use Rattle.modules.proofs.records.new_record.Goals as goal

pub returns : goal.returns
unfolding new_record
returns c = rw (← c.blank_record.ensures) c.put_build.ensures
