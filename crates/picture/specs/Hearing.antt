-- Hearing a frame, on the picture's bytes. Assumes nothing.
use Rattle.std.specs.Prelude.{ℕ, cond, List, eqb, ltb}
use Rattle.laws.specs.Refusals.{no_room, too_short}
use Rattle.laws.specs.Answers.{refusal_in}
use Rattle.judging.specs.Reading.{reading}
use Rattle.places.specs.Runs.{Run, Meaning, refuses, names, enters, read_as}
use Rattle.shape.specs.Limits.{room, bus_address}
use Rattle.shape.specs.Answers.{outcome_numbers}
use Rattle.shape.specs.Result.{Result, refusing, done}
use Rattle.shape.specs.Head.{short, modules_of, slot_of, kind_in}
use Rattle.changes.specs.Telling.{naming}
use Rattle.modules.specs.Records.{entered_bytes, exchanged_bytes}

-- an entry as the type t, at the address a whose slot is s and whose type is kind
unfoldable pub entering : List ℕ → ℕ → ℕ → ℕ → ℕ → Run → Result
entering b s a kind t r =
    cond (ltb s room)
    (done (cond (eqb kind t) (naming b s r) (exchanged_bytes b s a t r)))
    (cond (ltb (modules_of b) room) (done (entered_bytes b a t r)) (refusing no_room b))

-- what a frame means, at the address a whose slot is s and whose type is kind
unfoldable pub hearing_as : List ℕ → ℕ → ℕ → ℕ → Meaning → Result
hearing_as b s a kind (refuses n) = refusing n b
hearing_as b s a kind (names r) = done (naming b s r)
hearing_as b s a kind (enters t r) = entering b s a kind t r

-- a frame at the address whose slot is s
unfoldable pub hearing_at : List ℕ → ℕ → ℕ → ℕ → List ℕ → Result
hearing_at b s identifier remote bytes =
    hearing_as b s (bus_address identifier) (kind_in b s) (read_as (kind_in b s) (reading (kind_in b s) identifier remote bytes))

-- a frame heard
unfoldable pub hearing : List ℕ → ℕ → ℕ → List ℕ → Result
hearing b identifier remote bytes = cond (short b) (refusing too_short b) (hearing_at b (slot_of b (bus_address identifier)) identifier remote bytes)

-- the number that it is refused for, 0 where it is accepted
abbrev pub number_of : Result → ℕ
number_of r = refusal_in (outcome_numbers r.outcome)
