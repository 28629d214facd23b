-- `texts::listing::put_lines` meets its contract. Assumes nothing.
use mathlib.Core.List.{◌++◌}
use Rattle.shape.specs.Limits.{addresses}
use Rattle.replay.specs.Window.{told_stream}
use Rattle.texts.specs.Text.{Fits}
use Rattle.texts.specs.Lines.{header, count_line}
use Rattle.texts.specs.Listing.{modules_text, fault_text, listing_text}
use Rattle.texts.proofs.Texts.{followed, room-first, room_rest}
use Rattle.texts.proofs.listing.put_lines.Goals as goal
use Rattle.texts.proofs.listing.put_lines.Goals.{Start}

-- the room of all but the last line, and of the lines of the modules with the header
most-room : (c : Start) → Fits c.args.out.now 0 (header ++ modules_text c.args.picture.now addresses ++ fault_text (told_stream c.args.stream).fault)
unfolding listing_text
most-room c = room-first (count_line c.args.stream.heard c.args.stream.refused) c.requires

modules-room : (c : Start) → Fits c.args.out.now 0 (header ++ modules_text c.args.picture.now addresses)
modules-room c = room-first (fault_text (told_stream c.args.stream).fault) (most-room c)

pub put_header-modules-requires : goal.put_header-modules-requires
put_header-modules-requires c = room-first (modules_text c.args.picture.now addresses) (modules-room (goal.at.put_header-modules-requires c).Start)

pub put_modules-fault-requires : goal.put_modules-fault-requires
put_modules-fault-requires c = room_rest c.put_header-modules.ensures (modules-room (goal.at.put_modules-fault-requires c).Start)

pub put_fault-counts-requires : goal.put_fault-counts-requires
put_fault-counts-requires c = room_rest (followed c.put_header-modules.ensures c.put_modules-fault.ensures) (most-room (goal.at.put_fault-counts-requires c).Start)

pub put_count_line-requires : goal.put_count_line-requires
unfolding listing_text
put_count_line-requires c = room_rest (followed (followed c.put_header-modules.ensures c.put_modules-fault.ensures) c.put_fault-counts.ensures) c.requires

pub returns : goal.returns
unfolding listing_text
returns c = followed (followed (followed c.put_header-modules.ensures c.put_modules-fault.ensures) c.put_fault-counts.ensures) c.put_count_line.ensures
