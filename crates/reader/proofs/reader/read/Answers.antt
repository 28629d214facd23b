use Rattle.std.proofs.Common.{refl}
use Rattle.judging.proofs.Numbers.{read_request, read_told}
use Rattle.reader.proofs.reader.read.Goals as goal

pub returns-then-remote-eq1 : goal.returns-then-remote-eq1
returns-then-remote-eq1 c = read_request _ _ _ _ c.in_ok-judge.ensures refl c.if-remote-eq1.true c.address_of-address.ensures

pub returns-else-remote-eq1 : goal.returns-else-remote-eq1
returns-else-remote-eq1 c = read_told _ _ _ _ c.in_ok-judge.ensures refl c.if-remote-eq1.false c.address_of-address.ensures c.command_told.ensures
