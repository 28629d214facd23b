-- `texts::sheets::told_in` meets its contract. Assumes nothing.
use Rattle.std.proofs.Common.{◌≡◌, length, get_or, take, ap, ◌∙◌, arith, get_or-take}
use Rattle.std.proofs.lemmas.List.{length-take-le}
use Rattle.questions.specs.Fills.{sum_to}
use Rattle.questions.proofs.Filling.{sum-none, sum_more}
use Rattle.texts.specs.Sheets.{told_number}
use Rattle.texts.proofs.sheets.told_in.Goals as goal

pub loop-number-init : goal.loop-number-init
loop-number-init c = (omega arith, sum-none (λ i. told_number (get_or c.args.row.now i 0)))

pub loop-number-preserved : goal.loop-number-preserved
loop-number-preserved c =
    let a = c.args in
    let l = c.loop-number in
    let n : length (take a.n a.row.now) ≡ a.n = length-take-le a.n a.row.now c.requires in
    let here = get_or-take a.n a.row.now l.number-index 0 (omega arith) in
    (omega (arith, c.told-count.ensures.1), sum_more (λ i. told_number (get_or a.row.now i 0)) l.number-index l.invariant.1 (c.told-count.ensures.0 ∙ ap told_number here))

pub returns : goal.returns
returns c =
    let a = c.args in
    let l = c.loop-number in
    let n : length (take a.n a.row.now) ≡ a.n = length-take-le a.n a.row.now c.requires in
    let e : l.number-index ≡ a.n = omega arith in
    l.invariant.1 ∙ ap (sum_to (λ i. told_number (get_or a.row.now i 0))) e
