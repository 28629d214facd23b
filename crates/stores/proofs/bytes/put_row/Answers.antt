-- `stores::bytes::put_row` meets its contract. Assumes nothing.
use Rattle.std.proofs.Common.{◌+◌, length, arith, rules, le-leb}
use borrow.Author.Tests.{lt-leb}
use Rattle.stores.specs.Stores.{stored_in}
use Rattle.stores.proofs.bytes.put_row.Goals as goal

pub returns-then-s-lt8 : goal.returns-then-s-lt8
unfolding stored_in
returns-then-s-lt8 c =
    let a = c.args in
    rw (lt-leb (a.at + 8) (length a.s.now) (omega arith))

pub returns-then-s-at : goal.returns-then-s-at
unfolding stored_in
returns-then-s-at c =
    let a = c.args in
    rw (lt-leb (a.at + 8) (length a.s.now) (omega arith))

pub returns : goal.returns
unfolding stored_in
returns c =
    let a = c.args in
    rw (le-leb (a.at + 8) (length a.s.now) (omega arith)) c.store_row.ensures
