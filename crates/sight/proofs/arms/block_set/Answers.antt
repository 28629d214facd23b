-- `sight::arms::block_set` meets its contract. Assumes nothing.
use Rattle.sight.specs.Arms.{located}
use Rattle.sight.proofs.Sight.{block_set, both_held, located_held}
use borrow.Author.Tests.{not-false}
use Rattle.std.proofs.Common.{sym, ◌∙◌, rules}
use Rattle.sight.proofs.arms.block_set.Goals as goal

pub tell_block-requires : goal.tell_block-requires
tell_block-requires c =
    let a = c.args in
    let t = sym (rw c.located.ensures at c.both.ensures) ∙ c.if-not-both.false in
    let g = both_held (located 7 252 a.«data».now) 12 a.replies.now t in
    (search rules, (rw c.byte_at-l.ensures (located_held 7 252 a.«data».now g.0).low_byte, g.1))

pub returns : goal.returns
returns c =
    let a = c.args in
    let t = sym (rw c.located.ensures at c.both.ensures) ∙ c.if-not-both.false in
    let e = rw (c.wide16.ensures, c.byte_at-l.ensures, c.byte_at.ensures, c.byte_at-2.ensures, c.byte_at-3.ensures, c.byte_at-4.ensures) at c.set_block.ensures in
    let f = rw c.byte_at-l.ensures at c.tell_block.ensures in
    block_set a.bench.now a.address a.identifier c.requires.0 a.replies.now a.«data».now _ _ c.requires.1 t e f
