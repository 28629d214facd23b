-- `frame::rows::every_type` meets its contract.
-- Assumes nothing.
use Rattle.laws.proofs.Keys.{passed_over}
use Rattle.kinds.specs.Types.{Entry, no_row, every_type}
use mathlib.Core.List.{[]}
use mathlib.Core.Path.{sym}
use Rattle.frame.proofs.rows.every_type.Goals as goal

pub returns-in-0 : goal.returns-in-0
returns-in-0 c = rw c.in-0.is

pub returns-in-254 : goal.returns-in-254
returns-in-254 c = rw c.in-254.is

pub returns-in-204 : goal.returns-in-204
returns-in-204 c = rw c.in-204.is

pub returns-in-218 : goal.returns-in-218
returns-in-218 c = rw c.in-218.is

pub returns-in-240 : goal.returns-in-240
returns-in-240 c = rw c.in-240.is

pub returns-in-241 : goal.returns-in-241
returns-in-241 c = rw c.in-241.is

pub returns-in-242 : goal.returns-in-242
returns-in-242 c = rw c.in-242.is

pub returns-in-239 : goal.returns-in-239
returns-in-239 c = rw c.in-239.is

pub returns-in-250 : goal.returns-in-250
returns-in-250 c = rw c.in-250.is

pub returns-in-253 : goal.returns-in-253
returns-in-253 c = rw c.in-253.is

pub returns-in-201 : goal.returns-in-201
returns-in-201 c = rw c.in-201.is

pub returns-in-203 : goal.returns-in-203
returns-in-203 c = rw c.in-203.is

pub returns-in-252 : goal.returns-in-252
returns-in-252 c = rw c.in-252.is

pub returns-in-202 : goal.returns-in-202
returns-in-202 c = rw c.in-202.is

pub returns-in-217 : goal.returns-in-217
returns-in-217 c = rw c.in-217.is

pub returns-in_default : goal.returns-in_default
returns-in_default c = sym (passed_over (λ (e : Entry). e.command) (λ (e : Entry). e.listed) no_row every_type [] c.args.command c.in_default.in_default-own.rest)
