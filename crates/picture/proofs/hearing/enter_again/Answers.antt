-- `picture::hearing::enter_again` meets its contract. Assumes nothing.
use borrow.Author.Rules.{rules}
use Rattle.picture.proofs.Entries.{again_same, again_other}
use Rattle.picture.proofs.hearing.enter_again.Goals as goal

-- by what is known there, whatever stands on the way
pub returns-then-entered-kind : goal.returns-then-entered-kind
returns-then-entered-kind c = search again_same

pub returns : goal.returns
returns c = search again_other
