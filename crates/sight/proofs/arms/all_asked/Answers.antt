-- `sight::arms::all_asked` meets its contract. Assumes nothing.
use Rattle.std.proofs.Common.{eqb, length, sym, ◌∙◌, rules}
use Rattle.sight.proofs.Sight.{all_asked, both_held}
use borrow.Author.Tests.{not-false}
use Rattle.sight.proofs.arms.all_asked.Goals as goal

pub tell_all-requires : goal.tell_all-requires
tell_all-requires c =
    let a = c.args in
    let t = sym c.both.ensures ∙ c.if-not-both.false in
    (c.requires.0.whole, (both_held (eqb (length a.«data».now) 1) 768 a.replies.now t).1)

pub returns : goal.returns
returns c =
    let a = c.args in
    let t = sym c.both.ensures ∙ c.if-not-both.false in
    all_asked a.bench.now a.address a.identifier c.requires.0 a.replies.now a.«data».now _ c.requires.1 t c.tell_all.ensures
