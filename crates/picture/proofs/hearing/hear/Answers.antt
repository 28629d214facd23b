use Rattle.std.proofs.Common.{ap}
use borrow.Author.Tests.{lt-ltb, le-ltb}
use Rattle.frame.specs.declared.identifiers.Address.{Address}
use Rattle.picture.specs.Hearing.{hearing}
use Rattle.picture.proofs.Heard.{slot-none}
use Rattle.picture.proofs.Told.{outcome_is}
use Rattle.picture.proofs.hearing.hear.Goals as goal

pub returns-then-picture-lt-SIZE : goal.returns-then-picture-lt-SIZE
unfolding hearing
returns-then-picture-lt-SIZE c = let short = lt-ltb _ _ c.if-picture-lt-SIZE.true in record { value = rw short; picture_after = rw short }

pub returns-then-slot-lt-ROOM : goal.returns-then-slot-lt-ROOM
unfolding hearing
returns-then-slot-lt-ROOM c =
    let a = c.args in
    let long = le-ltb _ _ c.if-picture-lt-SIZE.false in
    let at = ap (λ (x : Address). x.0) c.address_of.ensures in
    record {
      value = outcome_is a.picture.now a.identifier a.remote a.«data».now c.hear_listed.result (rw (long, ← at, ← c.slot_of-slot.ensures) c.hear_listed.ensures.value);
      picture_after = rw (long, ← at, ← c.slot_of-slot.ensures) c.hear_listed.ensures.picture_after;
    }

pub returns-else-slot-lt-ROOM : goal.returns-else-slot-lt-ROOM
unfolding hearing
returns-else-slot-lt-ROOM c =
    let a = c.args in
    let long = le-ltb _ _ c.if-picture-lt-SIZE.false in
    let none = slot-none a.picture.now c.address_of.result.0 (rw (← c.slot_of-slot.ensures) c.if-slot-lt-ROOM.false) in
    let at = ap (λ (x : Address). x.0) c.address_of.ensures in
    record {
      value = outcome_is a.picture.now a.identifier a.remote a.«data».now c.hear_unlisted.result (rw (long, ← at, none) c.hear_unlisted.ensures.value);
      picture_after = rw (long, ← at, none) c.hear_unlisted.ensures.picture_after;
    }
