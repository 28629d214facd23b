-- `picture::hearing::enter_new` meets its contract. Assumes nothing.
use borrow.Author.Rules.{rules}
use Rattle.picture.proofs.Entries.{newcomer_number, newcomer_bytes}
use Rattle.picture.proofs.hearing.enter_new.Goals as goal

-- by what is known there, whatever stands on the way
pub returns : goal.returns
returns c = record { value = search newcomer_number; picture_after = search newcomer_bytes }
