-- The paper's listings are the lines that the definitions give. Assumes nothing.
use mathlib.Core.Path.{refl}
use Rattle.texts.specs.Text.{decimal}
use Rattle.texts.specs.Lines.{module_line}
use Rattle.texts.specs.TextStatements.{ListingsRight}

pub listings_right : ListingsRight
unfolding decimal module_line
listings_right = (refl, refl, refl)
