-- `texts::lines::put_two_numbers` meets its contract. Assumes nothing.
use borrow.Author.Rules.{rules}
use Rattle.texts.specs.Text.{letters}
use Rattle.texts.specs.Lines.{numbered}
use Rattle.texts.proofs.Texts.{followed, room-first, room_rest}
use Rattle.texts.proofs.lines.put_two_numbers.Goals as goal

pub put_numbered-rest-requires : goal.put_numbered-rest-requires
put_numbered-rest-requires c = room-first (numbered c.args.second.now c.args.n) (room-first (letters "\n") c.requires)

pub put_numbered-end-requires : goal.put_numbered-end-requires
put_numbered-end-requires c = room_rest c.put_numbered-rest.ensures (room-first (letters "\n") c.requires)

pub put_byte-requires : goal.put_byte-requires
put_byte-requires c = room_rest (followed c.put_numbered-rest.ensures c.put_numbered-end.ensures) c.requires

pub returns : goal.returns
returns c = followed (followed c.put_numbered-rest.ensures c.put_numbered-end.ensures) c.put_byte.ensures
