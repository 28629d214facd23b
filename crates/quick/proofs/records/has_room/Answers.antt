-- `quick::records::has_room` meets its contract. Assumes nothing.
use Prim.Native.Nat.{◌+◌}
use mathlib.Core.Path.{sym}
use native.Mathlib.Omega.{arith}
use borrow.Author.Tests.{le-leb, lt-leb}
use lib.ListN.{length}
use Rattle.recording.specs.Limits.{longest}
use Rattle.quick.proofs.records.has_room.Goals as goal

pub returns-then-s-at : goal.returns-then-s-at
returns-then-s-at c = let a = c.args in sym (lt-leb (a.at + longest) (length a.s.now) (omega arith))

pub returns-then-s-at-lt-LONGEST : goal.returns-then-s-at-lt-LONGEST
returns-then-s-at-lt-LONGEST c = let a = c.args in sym (lt-leb (a.at + longest) (length a.s.now) (omega arith))

pub returns : goal.returns
returns c = let a = c.args in sym (le-leb (a.at + longest) (length a.s.now) (omega arith))
