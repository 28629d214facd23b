-- `texts::listing::put_listing` meets its contract. Assumes nothing.
use native.Mathlib.Omega.{arith}
use Rattle.replay.specs.Window.{told_stream}
use Rattle.texts.proofs.Rooms.{listing_no_picture, listing-room, listing_at_once}
use Rattle.texts.proofs.listing.put_listing.Goals as goal

pub returns-then-picture-lt-SIZE : goal.returns-then-picture-lt-SIZE
returns-then-picture-lt-SIZE c = let a = c.args in let both = listing_no_picture a.picture.now a.out.now (told_stream a.stream) c.if-picture-lt-SIZE.true in record { value = both.0; out_after = both.1 }

pub put_lines-requires : goal.put_lines-requires
put_lines-requires c = let a = c.args in listing-room a.picture.now a.out.now (told_stream a.stream) (omega arith)

pub returns : goal.returns
returns c =
    let a = c.args in
    let p = c.put_lines in
    let both = listing_at_once a.picture.now a.out.now (told_stream a.stream) (omega arith) p.new.out p.result p.ensures c.if-picture-lt-SIZE.false in record { value = both.0; out_after = both.1 }
