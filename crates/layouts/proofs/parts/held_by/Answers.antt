use Rattle.layouts.specs.Parts.{same_six, same_parts, held_by}
use Rattle.layouts.proofs.parts.held_by.Goals as goal

pub returns-then-eq : goal.returns-then-eq
unfolding held_by same_parts same_six
returns-then-eq c = rw (← c.message_from-m.ensures, ← c.parts_of.ensures, ← c.if-eq.ensures)

pub returns-else-eq : goal.returns-else-eq
unfolding held_by same_parts same_six
returns-else-eq c = rw (← c.message_from-m.ensures, ← c.parts_of.ensures, ← c.if-eq.ensures)
