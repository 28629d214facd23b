-- `modules::records::blank_record` meets its contract. Assumes nothing.
use borrow.Author.Rules.{rules}
use Rattle.modules.specs.Records.{blank_record}
use Rattle.modules.proofs.records.blank_record.Goals as goal

pub returns : goal.returns
unfolding blank_record
returns c = cc
