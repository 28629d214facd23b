-- `layouts::parts::long_number` meets its contract. Assumes nothing.
use mathlib.Core.List.{[]}
use mathlib.Core.Path.{sym}
use Rattle.laws.proofs.Keys.{passed_over}
use Rattle.layouts.specs.Parts.{Numbered, long_types, no_message, number_in}
use Rattle.layouts.proofs.parts.long_number.Goals as goal

pub returns-in-10 : goal.returns-in-10
unfolding number_in
returns-in-10 c = rw c.in-10.is

pub returns-in_default : goal.returns-in_default
unfolding number_in
returns-in_default c = sym (passed_over (λ (l : Numbered). l.kind) (λ (l : Numbered). l.what) no_message long_types [] c.args.kind c.in_default.in_default-own.rest)
