-- `velbus::frames::velbus_write` meets its contract. Assumes nothing.
use Rattle.velbus.specs.Frames.{write_word, write_into}
use borrow.Author.Tests.{lt-ltb, le-ltb}
use mathlib.Core.Path.{refl, ap, ◌∙◌}
use Rattle.results.specs.Words.{refused_word}
use borrow.Author.Rules.{rules}
use Rattle.velbus.proofs.frames.velbus_write.Goals as goal

pub returns-then-message : goal.returns-then-message
unfolding write_word write_into
returns-then-message c = record { value = rw (lt-ltb _ _ c.if-message.true) (c.refused.ensures ∙ ap refused_word c.code.ensures); out_after = rw (lt-ltb _ _ c.if-message.true) (refl) }

pub returns : goal.returns
unfolding write_word write_into
returns c = record { value = rw (le-ltb _ _ c.if-message.false, ← c.held_in.ensures) (c.write_held.ensures.value); out_after = rw (le-ltb _ _ c.if-message.false, ← c.held_in.ensures) (c.write_held.ensures.out_after) }
