-- `layouts::parts::time_number` meets its contract.
-- Assumes nothing.
use borrow.Author.Rules.{rules}
use Rattle.layouts.proofs.parts.time_number.Goals as goal

pub returns-in-DipSwitch : goal.returns-in-DipSwitch
returns-in-DipSwitch c = rw c.in-DipSwitch.is

pub returns-in-Permanently : goal.returns-in-Permanently
returns-in-Permanently c = rw c.in-Permanently.is

pub returns-in-Seconds : goal.returns-in-Seconds
returns-in-Seconds c = rw c.in-Seconds.is
