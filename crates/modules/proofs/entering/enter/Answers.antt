-- `modules::entering::enter` meets its contract. Assumes nothing.
use native.Mathlib.Omega.{arith}
use borrow.Author.Tests.{lt-ltb, le-ltb}
use borrow.Author.Rules.{rules}
use Rattle.shape.specs.Head.{modules_of}
use Rattle.stores.proofs.Within.{noted_in_lem}
use Rattle.modules.specs.Records.{entered_bytes, enter_number, entered_in}
use Rattle.modules.proofs.entering.enter.Goals as goal

pub returns-then-picture-lt-SIZE : goal.returns-then-picture-lt-SIZE
unfolding enter_number entered_in
returns-then-picture-lt-SIZE c = let short = lt-ltb _ _ c.if-picture-lt-SIZE.true in record { value = rw short; picture_after = rw short }

pub returns-then-slot-ge-ROOM : goal.returns-then-slot-ge-ROOM
unfolding enter_number entered_in
returns-then-slot-ge-ROOM c =
    let long = le-ltb _ _ c.if-picture-lt-SIZE.false in
    let full = le-ltb _ _ c.if-slot-ge-ROOM.true in
    let n = c.modules_of-slot.ensures in
    record { value = rw (long, ← n, full); picture_after = rw (long, ← n, full) }

pub list_at-requires : goal.list_at-requires
list_at-requires c = omega arith

pub returns : goal.returns
unfolding enter_number entered_in entered_bytes
returns c =
    let fits = c.if-slot-ge-ROOM.false in
    let n = c.modules_of-slot.ensures in
    let long = c.if-picture-lt-SIZE.false in record { value = rw (le-ltb _ _ long, ← n, lt-ltb _ _ fits); picture_after = rw (le-ltb _ _ long, ← n, lt-ltb _ _ fits, ← noted_in_lem _ _ long, ← c.note.ensures, ← c.new_record.ensures, ← c.list_at.ensures) c.step_on.ensures }
