-- `commands::commands::hear_command` meets its contract. Assumes nothing.
use Rattle.std.proofs.Common.{sym, ◌∙◌, rules}
use borrow.Author.Tests.{not-true, not-false}
use Rattle.commands.proofs.Dispatch.{too_short_lem, no_slot, no_module}
use Rattle.commands.proofs.commands.hear_command.Goals as goal

pub returns-then-picture-lt-SIZE : goal.returns-then-picture-lt-SIZE
returns-then-picture-lt-SIZE c =
    let h = too_short_lem c.args.picture.now c.args.slot c.args.kind c.args.priority c.args.«data».now c.if-picture-lt-SIZE.true in
    record { value = h.number; picture_after = h.bytes_after }

pub returns-then-slot-ge-ROOM : goal.returns-then-slot-ge-ROOM
returns-then-slot-ge-ROOM c =
    let h = no_slot c.args.picture.now c.args.slot c.args.kind c.args.priority c.args.«data».now c.if-picture-lt-SIZE.false c.if-slot-ge-ROOM.true in
    record { value = h.number; picture_after = h.bytes_after }

pub returns-then-not-module_type : goal.returns-then-not-module_type
returns-then-not-module_type c =
    let m = rw c.wide32.ensures at c.module_type.ensures in
    let h = no_module c.args.picture.now c.args.slot c.args.kind c.args.priority c.args.«data».now c.if-picture-lt-SIZE.false c.if-slot-ge-ROOM.false (sym m ∙ c.if-not-module_type.true) in
    record { value = h.number; picture_after = h.bytes_after }

pub hear_listed-requires : goal.hear_listed-requires
hear_listed-requires c =
    let m = rw c.wide32.ensures at c.module_type.ensures in
    record { whole = c.if-picture-lt-SIZE.false; within = c.if-slot-ge-ROOM.false; module_type = sym m ∙ c.if-not-module_type.false }
