-- `replay::window::fits` meets its contract. Assumes nothing.
use Rattle.std.proofs.Common.{◌+◌, sym, arith, le-leb}
use borrow.Author.Tests.{lt-leb}
use Rattle.replay.proofs.window.fits.Goals as goal

pub returns-then-len-left : goal.returns-then-len-left
returns-then-len-left c = let a = c.args in sym (lt-leb (a.left + a.n) a.len (omega arith))

pub returns-then-len-left-2 : goal.returns-then-len-left-2
returns-then-len-left-2 c = let a = c.args in sym (lt-leb (a.left + a.n) a.len (omega arith))

pub returns : goal.returns
returns c = let a = c.args in sym (le-leb (a.left + a.n) a.len (omega arith))
