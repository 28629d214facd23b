use Rattle.std.proofs.lemmas.Result.{err_from_is_err_and}
use Rattle.laws.proofs.Codes.{some_code}
use Rattle.picture.proofs.Frames.{unhanded, handed_is}
use Rattle.picture.proofs.hearing.hear_type_frame.Goals as goal

pub returns-in_err-handed : goal.returns-in_err-handed
returns-in_err-handed c =
    let a = c.args in
    let p = err_from_is_err_and c.from_residual.result c.from_residual.ensures.1 in
    let both = unhanded a.picture.now a.slot a.identifier a.remote a.«data».now a.kind c.requires.size_in_bounds.2 c.in_err-handed.ensures (some_code c.in_err-handed.field-0.0) in
    record { value = rw (p.1, p.2) both.0; picture_after = both.1 }

pub hear_type-requires : goal.hear_type-requires
hear_type-requires c =
    let a = c.args in
    let handed = handed_is a.picture.now a.slot a.identifier a.remote a.«data».now a.kind c.requires.size_in_bounds.2 c.in_ok-handed.ensures in
    record { size_in_bounds = c.requires.size_in_bounds; handed_types_value = (handed, c.requires.data_value.0, c.requires.data_value.1, c.requires.data_value.2) }
