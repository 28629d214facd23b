-- `sight::arms::block_asked` meets its contract. Assumes nothing.
use Rattle.sight.specs.Arms.{located}
use Rattle.sight.proofs.Sight.{block-asked, both_held, located_held}
use borrow.Author.Tests.{not-false}
use Rattle.std.proofs.Common.{sym, ◌∙◌, rules}
use Rattle.sight.proofs.arms.block_asked.Goals as goal

pub tell_block-requires : goal.tell_block-requires
tell_block-requires c =
    let a = c.args in
    let t = sym (rw c.located.ensures at c.both.ensures) ∙ c.if-not-both.false in
    let g = both_held (located 3 252 a.«data».now) 12 a.replies.now t in
    (c.requires.0.whole, (rw c.byte_at.ensures (located_held 3 252 a.«data».now g.0).low_byte, g.1))

pub returns : goal.returns
returns c =
    let a = c.args in
    let t = sym (rw c.located.ensures at c.both.ensures) ∙ c.if-not-both.false in
    block-asked a.bench.now a.address a.identifier c.requires.0 a.replies.now a.«data».now _ c.requires.1 t (rw c.byte_at.ensures at c.tell_block.ensures)
