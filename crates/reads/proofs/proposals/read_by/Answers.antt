-- `reads::proposals::read_by` meets its contract. Assumes nothing.
use Rattle.std.proofs.Common.{◌||◌, refl, ◌∙◌, rules, tests}
use Rattle.std.specs.List.{list_any}
use Rattle.std.proofs.lemmas.Iterator.{YieldsList-from_slice}
use Rattle.std.proofs.lemmas.Iterator.Search.{any_from_yields_List}
use Rattle.std.proofs.lemmas.List.Recursion.{same_from_clauses}
use Rattle.reads.specs.Judging.{reads, read_by}
use Rattle.reads.proofs.proposals.read_by.Goals as goal

pub returns : goal.returns
unfolding read_by
returns c =
    let starts = c.args.starts.now in
    let cell = c.args.cell in
    any_from_yields_List (λ x. reads x cell) _ _ c.any.result c.any.ensures.ran (YieldsList-from_slice starts cc) (λ x b q k. search (rules, tests))
    ∙ same_from_clauses (list_any (λ x. reads x cell)) (λ xs. read_by xs cell) (λ x r. reads x cell || r) refl (λ _ _. refl) (λ _ _. refl) starts
