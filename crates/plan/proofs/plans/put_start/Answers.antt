-- `plan::plans::put_start` meets its contract. Assumes nothing.
use native.Mathlib.Omega.{arith}
use lib.ListN.{length-set}
use Rattle.plan.proofs.plans.put_start.Goals as goal

pub bounds-out-count-2 : goal.bounds-out-count-2
bounds-out-count-2 c = simp length-set (omega arith)
