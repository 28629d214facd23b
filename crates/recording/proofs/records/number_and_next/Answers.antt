-- `recording::records::number_and_next` meets its contract. Assumes nothing.
use mathlib.Core.Path.{refl}
use native.Mathlib.Omega.{arith}
use Rattle.groups.specs.Number.{groups_of}
use Rattle.groups.proofs.Reading.{value_at_lem}
use Rattle.recording.proofs.records.number_and_next.Goals as goal

pub overflow_add-result : goal.overflow_add-result
overflow_add-result c =
    let a = c.args in
    omega (arith, (value_at_lem (groups_of a.most) a.most a.at a.s.now _ c.in-Ok.value c.in-Ok.groups c.in-Ok.ensures refl).inside)
