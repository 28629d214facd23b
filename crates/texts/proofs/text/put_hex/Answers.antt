-- `texts::text::put_hex` meets its contract. Assumes nothing.
use mathlib.Core.Path.{subst}
use mathlib.Core.List.{List, [], ◌∷◌}
use Prim.Native.Nat.{ℕ}
use borrow.Author.Rules.{rules}
use Rattle.texts.specs.Text.{Written}
use Rattle.texts.proofs.Texts.{followed}
use Rattle.texts.proofs.text.put_hex.Goals as goal

pub returns : goal.returns
returns c =
    let a = c.args in
    let last = c.put_byte in
    subst (λ (text : List ℕ). Written a.out.now a.at text last.new.out last.result) (λ i. c.hex_digit.ensures i ∷ c.hex_digit-2.ensures i ∷ [])
    (followed c.put_byte-low.ensures last.ensures)
