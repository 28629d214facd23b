-- `texts::listing::put_if_it_fits` meets its contract. Assumes nothing.
use Prim.Native.Nat.{ℕ, ◌+◌, ◌*◌, ◌≤◌}
use mathlib.Core.Path.{◌∙◌}
use native.Mathlib.Omega.{arith}
use borrow.Author.Rules.{rules}
use mathlib.Core.List.{List}
use lib.ListN.{length, replicate, length-replicate}
use Rattle.shape.specs.Limits.{addresses}
use Rattle.texts.specs.TextStatements.{line_room}
use Rattle.texts.proofs.Listings.{listing-fits}
use Rattle.replay.specs.Window.{told_stream}
use Rattle.texts.proofs.Rooms.{listing_no_room, listing-room, listing_whole, listing-copied}
use Rattle.texts.proofs.listing.put_if_it_fits.Goals as goal

-- the function's own room holds any listing
abbrev room : List ℕ
room = replicate (line_room * (addresses + 3)) 0

large : line_room * (addresses + 3) ≤ length room
large = omega (arith, length-replicate {A = ℕ} (line_room * (addresses + 3)) 0)

pub put_lines-n-requires : goal.put_lines-n-requires
put_lines-n-requires c = let a = c.args in listing-room a.picture.now room (told_stream a.stream) large

pub slice_bounds-copy_in-end : goal.slice_bounds-copy_in-end
slice_bounds-copy_in-end c =
    let a = c.args in
    let p = c.put_lines-n in
    let inside : p.result ≤ line_room * (addresses + 3) = omega (arith, p.ensures.past, listing-fits a.picture.now (told_stream a.stream)) in
    search rules

pub returns-then-n-out : goal.returns-then-n-out
returns-then-n-out c =
    let a = c.args in
    let p = c.put_lines-n in
    let l = listing-copied a.picture.now a.out.now room p.new.out p.result (told_stream a.stream) c.requires large p.ensures (omega arith) in
    record { value = l.0; out_after = c.copy_in.ensures ∙ l.1 }

pub returns : goal.returns
returns c =
    let a = c.args in
    let p = c.put_lines-n in
    let whole = listing_whole a.picture.now room (told_stream a.stream) large p.new.out p.result p.ensures in
    let both = listing_no_room a.picture.now a.out.now (told_stream a.stream) c.requires (omega (arith, whole.0)) in record { value = both.0; out_after = both.1 }
