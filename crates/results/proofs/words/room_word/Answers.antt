-- `results::words::room_word` meets its contract. Assumes nothing.
use borrow.Author.Tests.{le-leb, lt-leb}
use native.Mathlib.Omega.{arith}
use mathlib.Core.Path.{ap, ◌∙◌}
use Rattle.results.specs.Words.{refused_word}
use Rattle.results.proofs.words.room_word.Goals as goal

pub returns-then-need-room : goal.returns-then-need-room
returns-then-need-room c = rw (le-leb _ _ c.if-need-room.true) (omega arith)

pub returns-else-need-room : goal.returns-else-need-room
returns-else-need-room c = rw (lt-leb _ _ c.if-need-room.false) (c.refused.ensures ∙ ap refused_word c.code.ensures)
