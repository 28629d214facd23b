-- `plan::judges::gather` meets its contract. Assumes nothing.
use Rattle.std.proofs.Common.{arith}
use Rattle.plan.proofs.CellRow.{gathered_none, gathered-more, gathered_all}
use Rattle.plan.proofs.judges.gather.Goals as goal

pub loop-i-init : goal.loop-i-init
loop-i-init c = gathered_none c.args.bytes.now c.args.starts.now

pub loop-i-preserved : goal.loop-i-preserved
loop-i-preserved c = gathered-more c.args.bytes.now _ c.loop-i.i (omega arith) c.loop-i.invariant c.number16.ensures

pub returns : goal.returns
returns c = gathered_all c.args.bytes.now _ c.loop-i.i (omega arith) c.loop-i.invariant
