-- Each case of specs/Cases.antt is answered as it says: antt computes them. Assumes nothing.
use native.Mathlib.Omega.{arith}
use mathlib.Core.Path.{refl, ap}
use mathlib.Core.List.{[], reverse}
use Rattle.laws.specs.Tab.{tab}
use Rattle.kinds.specs.Types.{line_of, rows_of, extent_of, position_in, blind_of}
use Rattle.judging.specs.Reading.{reading, command_read, request_read}
use Rattle.places.specs.Places.{cell_asked, led_asked, blind_asked}
use Rattle.places.specs.Runs.{said_from, meaning_of, meant, read_as}
use Rattle.questions.specs.Question.{Reply}
use Rattle.history.specs.Standing.{deepest, sense, meaning, typed, standing_type, after, gave, latest, more, listed, judged, judgement, stands, but_latest, struck, counted, standing, kept}
use Rattle.history.specs.Asked.{told_as, told_reply}
use Rattle.history.specs.Cases.{example, Worked}
use Rattle.history.proofs.Demand3.{demand_3}

pub worked : Worked
unfolding tab line_of rows_of extent_of position_in blind_of reading command_read request_read cell_asked led_asked blind_asked said_from meaning_of meant read_as sense meaning typed standing_type after gave latest more listed judged judgement stands but_latest struck counted standing kept told_as told_reply
worked =
    record {
      numbers = refl;
      by_bytes = λ b whole c. ap (λ (r : Reply). r.answer) ((demand_3 b whole deepest (omega arith) (reverse c.events)).each example c.asked []);
    }
