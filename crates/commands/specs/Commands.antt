-- A command heard by the module in a slot: the number of its refusal, and what it does to the picture's bytes. Assumes nothing.
use Rattle.std.specs.Prelude.{ℕ, cond, not, List, ◌==◌, nat_lt}
use Rattle.laws.specs.Refusals.{too_short, type_not_known, not_listed}
use Rattle.laws.specs.Tests.{unless}
use Rattle.frame.specs.Bytes.{byte, data_of}
use Rattle.frame.specs.Messages.{type_command}
use Rattle.judging.specs.Reading.{row_refusal}
use Rattle.places.specs.Runs.{Run, run_in, meaning_of, command_of}
use Rattle.shape.specs.Limits.{room}
use Rattle.shape.specs.Head.{short}
use Rattle.changes.specs.Telling.{naming}

-- the run that the data bytes of a frame name
abbrev pub named_by : ℕ → List ℕ → Run
named_by kind s = run_in (meaning_of kind (command_of s))

-- a command heard by the module in slot s, of the type kind: 13, 5; H'FF' is none here, 6; then 6, 7, 8, 9 by its row and its fields
unfoldable pub command_number : List ℕ → ℕ → ℕ → ℕ → List ℕ → ℕ
command_number b s kind priority bytes =
    unless (not (short b)) too_short
    (unless (nat_lt s room) type_not_known
    (unless (not (byte 1 bytes == type_command)) not_listed
    (row_refusal kind priority (data_of bytes) (command_of bytes))))

-- and what it names is told, where that number is 0
unfoldable pub command_bytes : List ℕ → ℕ → ℕ → ℕ → List ℕ → List ℕ
command_bytes b s kind priority bytes = cond (command_number b s kind priority bytes == 0) (naming b s (named_by kind bytes)) b
