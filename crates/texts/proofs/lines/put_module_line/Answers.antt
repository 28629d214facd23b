-- `texts::lines::put_module_line` meets its contract. Assumes nothing.
use borrow.Author.Rules.{rules}
use mathlib.Core.List.{◌++◌}
use Rattle.texts.specs.Text.{Fits, letters, in_hex}
use Rattle.texts.specs.Lines.{module_line, two_numbers}
use Rattle.texts.proofs.Texts.{followed, room-first, room_rest}
use Rattle.texts.proofs.lines.put_module_line.Goals as goal
use Rattle.texts.proofs.lines.put_module_line.Goals.{Start}

-- the room of the address and the type, with what stands before the numbers
head-room : (c : Start) → Fits c.args.out.now c.args.at (in_hex c.args.address ++ letters " " ++ in_hex c.args.kind)
unfolding module_line
head-room c = room-first (two_numbers (letters " ") c.args.names (letters " ") c.args.cells) c.requires

pub put_hex-space-requires : goal.put_hex-space-requires
put_hex-space-requires c = room-first (letters " ") (room-first (in_hex c.args.kind) (head-room (goal.at.put_hex-space-requires c).Start))

pub put_byte-type_at-requires : goal.put_byte-type_at-requires
put_byte-type_at-requires c = room_rest c.put_hex-space.ensures (room-first (in_hex c.args.kind) (head-room (goal.at.put_byte-type_at-requires c).Start))

pub put_hex-counts-requires : goal.put_hex-counts-requires
put_hex-counts-requires c = room_rest (followed c.put_hex-space.ensures c.put_byte-type_at.ensures) (head-room (goal.at.put_hex-counts-requires c).Start)

pub put_two_numbers-requires : goal.put_two_numbers-requires
unfolding module_line
put_two_numbers-requires c = room_rest (followed (followed c.put_hex-space.ensures c.put_byte-type_at.ensures) c.put_hex-counts.ensures) c.requires

pub returns : goal.returns
unfolding module_line
returns c = followed (followed (followed c.put_hex-space.ensures c.put_byte-type_at.ensures) c.put_hex-counts.ensures) c.put_two_numbers.ensures
