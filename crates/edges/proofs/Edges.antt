-- The starred edges, as specs/Edges.antt states them: antt computes them. Assumes nothing.
use mathlib.Core.Path.{refl}
use mathlib.Core.List.{reverse}
use Rattle.laws.specs.Tab.{tab}
use Rattle.kinds.specs.Types.{line_of, rows_of, extent_of, position_in, name_of, blind_of}
use Rattle.fields.specs.Fields.{buttons_allowed, asked_allowed}
use Rattle.judging.specs.Reading.{reading, command_read, request_read}
use Rattle.places.specs.Places.{first_character, cell_asked, led_asked, blind_asked, has_name}
use Rattle.places.specs.Runs.{said_from, glow_by, meaning_of, meant, read_as}
use Rattle.history.specs.Standing.{sense, meaning, typed, standing_type, after, gave, latest, more, listed, judged, judgement, outcome_of, stands, but_latest, struck, counted, standing, kept, granted, answered}
use Rattle.history.specs.Asked.{count_told, over_row, told_as, told_reply}
use Rattle.history.specs.Cases.{example}
use Rattle.history.proofs.Demand3.{demand_3}
use Rattle.groups.specs.Number.{number_bytes, read_number}
use Rattle.recording.specs.Record.{read_within}
use Rattle.edges.specs.Edges.{EdgesHold, EdgesOnBytes}

pub edges_hold : EdgesHold
unfolding tab line_of rows_of extent_of position_in name_of blind_of buttons_allowed asked_allowed reading command_read request_read first_character cell_asked led_asked blind_asked has_name said_from glow_by meaning_of meant read_as sense meaning typed standing_type after gave latest more listed judged judgement outcome_of stands but_latest struck counted standing kept granted answered count_told over_row told_as told_reply number_bytes read_number read_within
edges_hold = refl

pub edges_on_bytes : EdgesOnBytes
edges_on_bytes b whole d allowed es = (demand_3 b whole d allowed (reverse es)).each example
