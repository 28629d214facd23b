-- `modules::records::lay_half` meets its contract. Assumes nothing.
use Rattle.std.proofs.Common.{◌≡◌, ℕ, List, get_or, replicate, ap, ◌∙◌}
use Rattle.std.proofs.lemmas.List.{get_or-replicate}
use Rattle.modules.proofs.Blanking.{blanked-none, blanked-more}
use Rattle.modules.proofs.records.lay_half.Goals as goal

pub loop-i-init : goal.loop-i-init
loop-i-init c = blanked-none _ _

pub loop-i-preserved : goal.loop-i-preserved
loop-i-preserved c =
    let i = c.loop-i.i in
    let each : (v : ℕ) (row : List ℕ) → row ≡ replicate 256 v → get_or row i 0 ≡ v = (λ v row e. ap (λ (r : List ℕ). get_or r i 0) e ∙ get_or-replicate 256 i v 0 c.loop-i-test.true) in
    blanked-more _ _ _ c.loop-i.invariant (each 0 _ c.requires.0) (each 1 _ c.requires.1) c.put_pair.ensures
