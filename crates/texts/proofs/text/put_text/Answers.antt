-- `texts::text::put_text` meets its contract. Assumes nothing.
use mathlib.Core.Path.{refl}
use borrow.Author.Rules.{rules}
use Rattle.texts.proofs.Texts.{copied}
use Rattle.texts.proofs.text.put_text.Goals as goal

pub returns : goal.returns
returns c =
    let k = c.copy_in in
    copied c.args.out.now c.args.at c.args.text.now k.new.out _ c.requires k.ensures refl
