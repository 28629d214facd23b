-- `modules::records::lay_record` meets its contract. Assumes nothing.
use borrow.Author.Rules.{rules}
use Rattle.modules.proofs.Blanking.{blank_halves}
use Rattle.modules.proofs.records.lay_record.Goals as goal

pub returns : goal.returns
returns c = blank_halves _ _ c.lay_half.ensures c.lay_half-2.ensures
