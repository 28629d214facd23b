-- `texts::plans::put_reads` meets its contract. Assumes nothing.
use borrow.Author.Rules.{rules}
use lib.ListN.{length}
use Rattle.texts.specs.Text.{letters}
use Rattle.texts.specs.Lines.{numbered}
use Rattle.texts.specs.Plans.{starts_text, reads_line}
use Rattle.texts.proofs.Texts.{followed, room-first, room_rest}
use Rattle.texts.proofs.plans.put_reads.Goals as goal

pub put_hex-count-requires : goal.put_hex-count-requires
unfolding reads_line
put_hex-count-requires c =
    let starts = c.args.starts.now in
    room-first (numbered (letters " ") (length starts)) (room-first (starts_text starts (length starts)) (room-first (letters "\n") c.requires))

pub put_numbered-list-requires : goal.put_numbered-list-requires
unfolding reads_line
put_numbered-list-requires c =
    let starts = c.args.starts.now in
    room_rest c.put_hex-count.ensures (room-first (starts_text starts (length starts)) (room-first (letters "\n") c.requires))

pub put_starts-end-requires : goal.put_starts-end-requires
unfolding reads_line
put_starts-end-requires c = room_rest (followed c.put_hex-count.ensures c.put_numbered-list.ensures) (room-first (letters "\n") c.requires)

pub put_byte-requires : goal.put_byte-requires
unfolding reads_line
put_byte-requires c = room_rest (followed (followed c.put_hex-count.ensures c.put_numbered-list.ensures) c.put_starts-end.ensures) c.requires

pub returns : goal.returns
unfolding reads_line
returns c = followed (followed (followed c.put_hex-count.ensures c.put_numbered-list.ensures) c.put_starts-end.ensures) c.put_byte.ensures
