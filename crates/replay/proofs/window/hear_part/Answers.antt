-- `replay::window::hear_part` meets its contract. Assumes nothing.
use Rattle.std.proofs.Common.{◌≡◌, ◌+◌, ◌≤◌, length, take, sym, ap, subst, ◌∙◌, arith, length-take-le, leb-false, leb-true}
use Rattle.std.specs.Prelude.{Ok}
use Rattle.replay.specs.Replay.{Replay, heard_by}
use Rattle.replay.specs.Window.{told_stream, shifted, advanced}
use Rattle.replay.proofs.Runs.{stops_inside}
use Rattle.replay.proofs.Rooms.{PartRefused, part_no_picture, part_no_room, part_heard}
use Rattle.replay.proofs.window.hear_part.Goals as goal
use Rattle.replay.proofs.window.hear_part.Goals.{then-picture-lt-SIZE-via-then-picture-lt-SIZE, then-picture-lt-SIZE-via-else-picture-lt-SIZE+then-not-fits}

pub returns-then-picture-lt-SIZE : goal.returns-then-picture-lt-SIZE
returns-then-picture-lt-SIZE c =
    let a = c.args in
    let both : PartRefused a.picture.now a.window.now (told_stream a.stream) a.n = elim c.then-picture-lt-SIZE.branch [
      | then-picture-lt-SIZE-via-then-picture-lt-SIZE w ↦ part_no_picture _ _ _ _ w.if-picture-lt-SIZE.true
      | then-picture-lt-SIZE-via-else-picture-lt-SIZE+then-not-fits w ↦ part_no_room _ _ _ _ w.if-picture-lt-SIZE.false (leb-false _ _ (sym w.fits.ensures ∙ w.if-not-fits.true))
    ] in
    record { value = both.0; picture_after = both.1.0; window_after = both.1.1 }

pub advance-requires : goal.advance-requires
advance-requires c =
    let a = c.args in
    let w = a.window.now in
    let k = a.stream.left + a.n in
    let t = c.turn-r in
    let long : length (take k w) ≡ k = length-take-le k w (leb-true _ _ (sym c.fits.ensures ∙ c.if-not-fits.false)) in
    let h : t.result.at ≤ length (take k w) = subst (λ (r : Replay). r.at ≤ length (take k w)) (sym t.ensures.value) (stops_inside heard_by a.picture.now (take k w)) in
    omega arith

pub returns : goal.returns
returns c =
    let a = c.args in
    let w = a.window.now in
    let k = a.stream.left + a.n in
    let t = c.turn-r in
    let h = part_heard a.picture.now w (told_stream a.stream) a.n c.if-picture-lt-SIZE.false (leb-true _ _ (sym c.fits.ensures ∙ c.if-not-fits.false)) in
    record {
      value = ap Ok (c.advance.ensures ∙ ap (λ (r : Replay). advanced (told_stream a.stream) r k) t.ensures.value) ∙ h.0;
      picture_after = t.ensures.picture_after ∙ h.1.0;
      window_after = t.ensures.window_after ∙ ap (λ (r : Replay). shifted w r.at k) t.ensures.value ∙ h.1.1;
    }
