-- `sight::arms::name_asked` meets its contract. Assumes nothing.
use Rattle.laws.proofs.Testing.{and_both}
use Rattle.frame.specs.Bytes.{byte}
use Rattle.kinds.specs.Bits.{one_bit}
use Rattle.std.proofs.Common.{◌&&◌, eqb, length, sym, ◌∙◌, rules}
use Rattle.sight.proofs.Sight.{name-asked, both_held}
use borrow.Author.Tests.{not-false}
use Rattle.sight.proofs.arms.name_asked.Goals as goal

pub tell_name-requires : goal.tell_name-requires
tell_name-requires c =
    let a = c.args in
    let t = sym (rw (c.both.ensures, c.one_bit.ensures, c.byte_at-n.ensures) at c.both-2.ensures) ∙ c.if-not-both.false in
    let g = both_held (eqb (length a.«data».now) 2 && one_bit (byte 2 a.«data».now)) 36 a.replies.now t in
    (rw c.byte_at-n.ensures (and_both (eqb (length a.«data».now) 2) (one_bit (byte 2 a.«data».now)) g.0).1, g.1)

pub returns : goal.returns
returns c =
    let a = c.args in
    let t = sym (rw (c.both.ensures, c.one_bit.ensures, c.byte_at-n.ensures) at c.both-2.ensures) ∙ c.if-not-both.false in
    name-asked a.bench.now a.address a.identifier c.requires.0 a.replies.now a.«data».now _ c.requires.1 t (rw c.byte_at-n.ensures at c.tell_name.ensures)
