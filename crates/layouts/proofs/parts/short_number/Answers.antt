-- `layouts::parts::short_number` meets its contract. Assumes nothing.
use mathlib.Core.List.{[]}
use mathlib.Core.Path.{sym}
use Rattle.laws.proofs.Keys.{passed_over}
use Rattle.layouts.specs.Parts.{Numbered, short_types, no_message, number_in}
use Rattle.layouts.proofs.parts.short_number.Goals as goal

pub returns-in-3 : goal.returns-in-3
unfolding number_in
returns-in-3 c = rw c.in-3.is

pub returns-in-9 : goal.returns-in-9
unfolding number_in
returns-in-9 c = rw c.in-9.is

pub returns-in_default : goal.returns-in_default
unfolding number_in
returns-in_default c = sym (passed_over (λ (l : Numbered). l.kind) (λ (l : Numbered). l.what) no_message short_types [] c.args.kind c.in_default.in_default-own.rest)
