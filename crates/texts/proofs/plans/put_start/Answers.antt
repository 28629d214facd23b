-- `texts::plans::put_start` meets its contract. Assumes nothing.
use borrow.Author.Rules.{rules}
use Rattle.texts.proofs.Texts.{followed}
use Rattle.texts.proofs.plans.put_start.Goals as goal

pub returns : goal.returns
returns c = followed (followed c.put_byte-high.ensures c.put_hex-low.ensures) c.put_hex.ensures
