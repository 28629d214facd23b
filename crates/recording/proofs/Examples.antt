-- The examples hold: antt computes them. Assumes nothing.
use mathlib.Core.Path.{refl}
use Rattle.groups.specs.Number.{number_bytes, read_number}
use Rattle.recording.specs.Record.{read_within}
use Rattle.recording.specs.Statements.{ExamplesHold}

pub examples_hold : ExamplesHold
unfolding number_bytes read_number read_within
examples_hold = refl
