-- `commands::commands::hear_listed` meets its contract. Assumes nothing.
use Rattle.std.proofs.Common.{rules}
use Rattle.laws.proofs.Keys.{not_among}
use Rattle.commands.specs.Arms.{single, stops, goes_up, goes_down, errors, errors_asked, memory_asked}
use Rattle.commands.proofs.commands.hear_listed.Goals as goal

pub free_heard-requires : goal.free_heard-requires
free_heard-requires c = (c.requires, rw (← c.byte_at-command.ensures, c.in-218.is) errors)

pub free_heard-requires-in-203 : goal.free_heard-requires-in-203
free_heard-requires-in-203 c = (c.requires, rw (← c.byte_at-command.ensures, c.in-203.is) memory_asked)

pub free_heard-requires-in-217 : goal.free_heard-requires-in-217
free_heard-requires-in-217 c = (c.requires, rw (← c.byte_at-command.ensures, c.in-217.is) errors_asked)

pub blind_moved-requires : goal.blind_moved-requires
blind_moved-requires c = (c.requires, rw (← c.byte_at-command.ensures, c.in-4.is) stops)

pub blind_moved-requires-in-5 : goal.blind_moved-requires-in-5
blind_moved-requires-in-5 c = (c.requires, rw (← c.byte_at-command.ensures, c.in-5.is) goes_up)

pub blind_moved-requires-in-6 : goal.blind_moved-requires-in-6
blind_moved-requires-in-6 c = (c.requires, rw (← c.byte_at-command.ensures, c.in-6.is) goes_down)

pub hear_rest-requires : goal.hear_rest-requires
hear_rest-requires c = (c.requires, c.byte_at-command.ensures, not_among _ single c.in_default.in_default-own.rest)

pub returns-in-0 : goal.returns-in-0
returns-in-0 c = c.buttons_told.ensures

pub returns-in-254 : goal.returns-in-254
returns-in-254 c = c.cell_told.ensures

pub returns-in-204 : goal.returns-in-204
returns-in-204 c = c.block_told.ensures

pub returns-in-252 : goal.returns-in-252
returns-in-252 c = c.cell_set.ensures

pub returns-in-202 : goal.returns-in-202
returns-in-202 c = c.block_set.ensures

pub returns-in-253 : goal.returns-in-253
returns-in-253 c = c.cell_asked.ensures

pub returns-in-201 : goal.returns-in-201
returns-in-201 c = c.block_asked.ensures

pub returns-in-242 : goal.returns-in-242
returns-in-242 c = c.last_told.ensures

pub returns-in-239 : goal.returns-in-239
returns-in-239 c = c.name_asked.ensures

pub returns-in-250 : goal.returns-in-250
returns-in-250 c = c.status_asked.ensures

pub returns-in-218 : goal.returns-in-218
returns-in-218 c = c.free_heard.ensures

pub returns-in-203 : goal.returns-in-203
returns-in-203 c = c.free_heard-in-203.ensures

pub returns-in-217 : goal.returns-in-217
returns-in-217 c = c.free_heard-in-217.ensures

pub returns-in-235 : goal.returns-in-235
returns-in-235 c = c.inputs_told.ensures

pub returns-in-244 : goal.returns-in-244
returns-in-244 c = c.leds_told.ensures

pub returns-in-236 : goal.returns-in-236
returns-in-236 c = c.blind_told.ensures

pub returns-in-4 : goal.returns-in-4
returns-in-4 c = c.blind_moved.ensures

pub returns-in-5 : goal.returns-in-5
returns-in-5 c = c.blind_moved-in-5.ensures

pub returns-in-6 : goal.returns-in-6
returns-in-6 c = c.blind_moved-in-6.ensures

pub returns-in_default : goal.returns-in_default
returns-in_default c = c.hear_rest.ensures
