use Rattle.std.proofs.lemmas.Result.{err_from_is_err_and}
use Rattle.laws.proofs.Codes.{some_code}
use Rattle.std.proofs.Common.{refl, ◌∙◌}
use Rattle.picture.proofs.Told.{command_heard, command-refused}
use Rattle.picture.proofs.hearing.hear_other.Goals as goal

pub returns-in-Ok : goal.returns-in-Ok
returns-in-Ok c =
    let a = c.args in
    let both = command_heard a.picture.now a.slot a.identifier a.remote a.«data».now a.kind c.requires.size_in_bounds.2 c.requires.data_value.0 c.requires.data_value.1 _ refl c.requires.data_value.2 c.requires.size_in_bounds.0 c.requires.size_in_bounds.1 _ c.in-Ok.ensures.value _ c.hear_command.ensures.picture_after refl in
    record { value = both.0; picture_after = both.1 }

pub returns-in-Err : goal.returns-in-Err
returns-in-Err c =
    let a = c.args in
    let both = command-refused a.picture.now a.slot a.identifier a.remote a.«data».now a.kind c.requires.size_in_bounds.2 c.requires.data_value.0 c.requires.data_value.1 _ refl c.requires.data_value.2 c.requires.size_in_bounds.0 c.requires.size_in_bounds.1 _ c.in-Err.ensures.value _ c.hear_command.ensures.picture_after (some_code c.in-Err.refusal) in
    record { value = c.refused_at.ensures ∙ both.0; picture_after = both.1 }
