-- `sight::arms::status_asked` meets its contract. Assumes nothing.
use Rattle.std.proofs.Common.{eqb, length, sym, ◌∙◌, rules}
use Rattle.sight.proofs.Sight.{status-asked, both_held}
use borrow.Author.Tests.{not-false}
use Rattle.sight.proofs.arms.status_asked.Goals as goal

pub tell_status-requires : goal.tell_status-requires
tell_status-requires c =
    let a = c.args in
    let t = sym c.both.ensures ∙ c.if-not-both.false in
    (both_held (eqb (length a.«data».now) 2) 12 a.replies.now t).1

pub returns : goal.returns
returns c =
    let a = c.args in
    let t = sym c.both.ensures ∙ c.if-not-both.false in
    status-asked a.bench.now a.address a.identifier c.requires.0 a.replies.now a.«data».now _ c.requires.1 t c.tell_status.ensures
