-- `texts::sheets::whole_names` meets its contract. Assumes nothing.
use Prim.Native.Nat.{◌+◌, ◌≤◌}
use mathlib.Core.Path.{◌≡◌, ap, sym, ◌∙◌}
use native.Mathlib.Omega.{arith}
use Rattle.questions.specs.Fills.{sum_to}
use Rattle.texts.specs.Sheets.{whole_name}
use Rattle.texts.proofs.Listings.{whole_small, sum-none, sum_more}
use Rattle.texts.proofs.sheets.whole_names.Goals as goal
use Rattle.texts.proofs.sheets.whole_names.Goals.{After-whole_name-count}

-- the name counts as one at most
small : (c : After-whole_name-count) → c.whole_name-count.result ≤ 1
small c = rw c.whole_name-count.ensures (whole_small c.args.picture.now c.args.address (c.loop-i.i + 1))

pub loop-i-init : goal.loop-i-init
loop-i-init c = let a = c.args in (omega arith, sym (sum-none (λ i. whole_name a.picture.now a.address (i + 1))))

pub overflow_add-count : goal.overflow_add-count
overflow_add-count c = omega (arith, small (goal.at.overflow_add-count c).After-whole_name-count)

pub loop-i-preserved : goal.loop-i-preserved
loop-i-preserved c =
    let l = c.loop-i in
    let a = c.args in
    (omega (arith, small (goal.at.loop-i-preserved c).After-whole_name-count), (λ k. l.invariant.1 k + c.whole_name-count.ensures k) ∙ sym (sum_more (λ i. whole_name a.picture.now a.address (i + 1)) l.i))

pub returns : goal.returns
returns c =
    let l = c.loop-i in
    let a = c.args in
    let e : l.i ≡ a.n = omega arith in
    l.invariant.1 ∙ ap (sum_to (λ i. whole_name a.picture.now a.address (i + 1))) e
