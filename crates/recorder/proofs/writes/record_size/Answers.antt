-- `recorder::writes::record_size` meets its contract. Assumes nothing.
use Prim.Native.Nat.{◌+◌, ◌*◌}
use native.Mathlib.Omega.{arith}
use lib.ListN.{length}
use Rattle.groups.specs.Number.{most_groups}
use Rattle.groups.proofs.Writing.{bytes_length}
use Rattle.recording.proofs.Ranges.{ranged}
use Rattle.recorder.proofs.Writing.{record-length}
use Rattle.recorder.proofs.writes.record_size.Goals as goal

pub overflow_mul-identifier : goal.overflow_mul-identifier
overflow_mul-identifier c =
    let a = c.args in
    omega (arith, (ranged a.gap a.identifier a.remote (length a.«data».now) c.requires).identifier-fits)

pub overflow_add-identifier : goal.overflow_add-identifier
overflow_add-identifier c =
    let a = c.args in
    let r = ranged a.gap a.identifier a.remote (length a.«data».now) c.requires in
    omega arith

pub overflow_add-result : goal.overflow_add-result
overflow_add-result c =
    let a = c.args in
    omega (arith, c.number_size-second.ensures, c.number_size-first.ensures, bytes_length most_groups a.gap, bytes_length most_groups (2 * a.identifier + a.remote))

pub overflow_add-result-2 : goal.overflow_add-result-2
overflow_add-result-2 c =
    let a = c.args in
    omega (arith, c.number_size-second.ensures, c.number_size-first.ensures, bytes_length most_groups a.gap, bytes_length most_groups (2 * a.identifier + a.remote))

pub overflow_add-result-3 : goal.overflow_add-result-3
overflow_add-result-3 c =
    let a = c.args in
    let r = ranged a.gap a.identifier a.remote (length a.«data».now) c.requires in
    omega (arith, c.number_size-second.ensures, c.number_size-first.ensures, bytes_length most_groups a.gap, bytes_length most_groups (2 * a.identifier + a.remote))

pub returns : goal.returns
returns c =
    let a = c.args in
    omega (arith, c.number_size-second.ensures, c.number_size-first.ensures, record-length a.gap a.identifier a.remote a.«data».now)
