-- `listing::put_out` is safe: what `put_listing` wrote lies in the buffer. Assumes nothing.
use Rattle.std.proofs.Common.{ℕ, ◌+◌, ◌*◌, ◌≤◌, List, length, sym, rules}
use lib.ListN.{replicate}
use Rattle.shape.specs.Limits.{addresses}
use Rattle.replay.specs.Window.{told_stream}
use Rattle.texts.specs.TextStatements.{line_room}
use Rattle.texts.proofs.Rooms.{put_is_inside}
use Rattle.listing.proofs.put_out.Goals as goal

pub slice_bounds-write_all-end : goal.slice_bounds-write_all-end
slice_bounds-write_all-end g c =
    let room : List ℕ = replicate (line_room * (addresses + 3)) 0 in
    let inside : c.in-Ok.n ≤ length room = put_is_inside c.args.picture.now room (told_stream c.args.stream) c.in-Ok.n (sym c.in-Ok.ensures.value) in
    search rules
