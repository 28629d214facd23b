-- `plan::plans::fits` meets its contract. Assumes nothing.
use native.Mathlib.Omega.{arith}
use mathlib.Core.Path.{sym}
use borrow.Author.Tests.{le-leb}
use Rattle.reads.specs.Plan.{least_reads}
use Rattle.plan.specs.Replies.{row_at}
use Rattle.plan.proofs.Turns.{few_reads}
use Rattle.plan.proofs.plans.fits.Goals as goal

pub returns-then-cells-entries : goal.returns-then-cells-entries
returns-then-cells-entries c =
    let a = c.args in
    sym (le-leb (least_reads (row_at a.picture.now a.at a.cells)) a.entries (omega (arith, few_reads a.picture.now a.at a.cells)))

pub returns : goal.returns
returns c = rw c.least.ensures
