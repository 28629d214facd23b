-- `layouts::parts::parts_of` meets its contract. Assumes nothing.
use Rattle.layouts.specs.Parts.{parts_of}
use borrow.Author.Rules.{rules}
use Rattle.layouts.proofs.parts.parts_of.Goals as goal

pub returns-in-TypeRequest : goal.returns-in-TypeRequest
unfolding parts_of
returns-in-TypeRequest c = rw (c.in-TypeRequest.is, c.free.ensures)

pub returns-in-Tells : goal.returns-in-Tells
unfolding parts_of
returns-in-Tells c = rw (c.in-Tells.is, c.command_parts.ensures)
