-- `commands::blinds::blind_fit` meets its contract. Assumes nothing.
use Rattle.commands.specs.Arms.{blind_fit}
use Rattle.std.proofs.Common.{rules}
use Rattle.commands.proofs.blinds.blind_fit.Goals as goal

pub returns-then-both : goal.returns-then-both
unfolding blind_fit
returns-then-both c = rw (← c.one_bit.ensures, ← c.either.ensures, ← c.both.ensures, c.if-both.true) c.blind_in.ensures

pub returns-else-both : goal.returns-else-both
unfolding blind_fit
returns-else-both c = rw (← c.one_bit.ensures, ← c.either.ensures, ← c.both.ensures, c.if-both.false)
