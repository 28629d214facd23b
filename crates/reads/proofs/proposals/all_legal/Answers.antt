-- `reads::proposals::all_legal` meets its contract. Assumes nothing.
use Rattle.std.proofs.Common.{◌&&◌, leb, refl, ap, ◌∙◌, rules, tests}
use Rattle.std.specs.List.{list_all}
use Rattle.std.proofs.lemmas.Iterator.{YieldsList-from_slice}
use Rattle.std.proofs.lemmas.Iterator.Search.{all_from_yields_List}
use Rattle.std.proofs.lemmas.List.Recursion.{same_from_clauses}
use Rattle.reads.specs.Reads.{last_start_of}
use Rattle.reads.specs.Judging.{all_legal}
use Rattle.reads.proofs.proposals.all_legal.Goals as goal

pub returns : goal.returns
unfolding all_legal
returns c =
    let starts = c.args.starts.now in
    let cells = c.args.cells in
    let last = c.last_start-last.result in
    all_from_yields_List (λ x. leb x last) _ _ c.all.result c.all.ensures.ran (YieldsList-from_slice starts cc) (λ x b q k. search (rules, tests))
    ∙ ap (λ n. list_all (λ x. leb x n) starts) c.last_start-last.ensures
    ∙ same_from_clauses (list_all (λ x. leb x (last_start_of cells))) (all_legal cells) (λ x r. leb x (last_start_of cells) && r) refl (λ _ _. refl) (λ _ _. refl) starts
