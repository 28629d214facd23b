-- `commands::commands::hear_rest` meets its contract. Assumes nothing.
use Rattle.std.proofs.Common.{arith, rules}
use Rattle.commands.proofs.Dispatch.{none-listed}
use Rattle.commands.proofs.commands.hear_rest.Goals as goal

pub returns : goal.returns
returns c = none-listed c.args.picture.now c.args.slot c.args.kind c.args.priority c.args.«data».now c.requires.0.whole c.requires.0.within c.requires.1 c.requires.2 (λ l m. omega arith) (λ l m. omega arith)
