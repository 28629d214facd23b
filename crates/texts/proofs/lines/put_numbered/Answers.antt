-- `texts::lines::put_numbered` meets its contract. Assumes nothing.
use borrow.Author.Rules.{rules}
use Rattle.texts.specs.Text.{in_decimal}
use Rattle.texts.proofs.Texts.{followed, room-first, room_rest}
use Rattle.texts.proofs.lines.put_numbered.Goals as goal

pub put_text-digits-requires : goal.put_text-digits-requires
put_text-digits-requires c = room-first (in_decimal c.args.n) c.requires

pub put_decimal-requires : goal.put_decimal-requires
put_decimal-requires c = room_rest c.put_text-digits.ensures c.requires

pub returns : goal.returns
returns c = followed c.put_text-digits.ensures c.put_decimal.ensures
