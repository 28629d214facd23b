-- `decoding::decoding::decoded` meets its contract.
-- Assumes nothing.
use mathlib.Core.List.{[]}
use Rattle.laws.proofs.Keys.{passed_over}
use Rattle.frame.specs.Messages.{Reader, readers, unlisted}
use Rattle.frame.specs.Bytes.{bytes_of}
use mathlib.Core.Path.{sym}
use borrow.Author.Rules.{rules}
use Rattle.decoding.proofs.decoding.decoded.Goals as goal

pub returns-in-0 : goal.returns-in-0
returns-in-0 c = rw c.in-0.is

pub returns-in-254 : goal.returns-in-254
returns-in-254 c = rw (c.location_of-l.ensures, c.in-254.is)

pub returns-in-204 : goal.returns-in-204
returns-in-204 c = rw (c.location_of-l.ensures, c.in-204.is)

pub returns-in-218 : goal.returns-in-218
returns-in-218 c = rw c.in-218.is

pub returns-in-240 : goal.returns-in-240
returns-in-240 c = rw c.in-240.is

pub returns-in-241 : goal.returns-in-241
returns-in-241 c = rw c.in-241.is

pub returns-in-242 : goal.returns-in-242
returns-in-242 c = rw c.in-242.is

pub returns-in-239 : goal.returns-in-239
returns-in-239 c = rw c.in-239.is

pub returns-in-250 : goal.returns-in-250
returns-in-250 c = rw c.in-250.is

pub returns-in-253 : goal.returns-in-253
returns-in-253 c = rw (c.location_of-l.ensures, c.in-253.is)

pub returns-in-201 : goal.returns-in-201
returns-in-201 c = rw (c.location_of-l.ensures, c.in-201.is)

pub returns-in-203 : goal.returns-in-203
returns-in-203 c = rw c.in-203.is

pub returns-in-252 : goal.returns-in-252
returns-in-252 c = rw (c.location_of-l.ensures, c.in-252.is)

pub returns-in-202 : goal.returns-in-202
returns-in-202 c = rw (c.location_of-l.ensures, c.in-202.is)

pub returns-in-217 : goal.returns-in-217
returns-in-217 c = rw c.in-217.is

pub returns-in-235 : goal.returns-in-235
returns-in-235 c = rw c.in-235.is

pub returns-in-244 : goal.returns-in-244
returns-in-244 c = rw c.in-244.is

pub returns-in-245 : goal.returns-in-245
returns-in-245 c = rw c.in-245.is

pub returns-in-246 : goal.returns-in-246
returns-in-246 c = rw c.in-246.is

pub returns-in-247 : goal.returns-in-247
returns-in-247 c = rw c.in-247.is

pub returns-in-248 : goal.returns-in-248
returns-in-248 c = rw c.in-248.is

pub returns-in-249 : goal.returns-in-249
returns-in-249 c = rw c.in-249.is

pub returns-in-236 : goal.returns-in-236
returns-in-236 c = rw c.in-236.is

pub returns-in-4 : goal.returns-in-4
returns-in-4 c = rw c.in-4.is

pub returns-in-5 : goal.returns-in-5
returns-in-5 c = rw (c.time_of-t.ensures, c.number24.ensures, c.in-5.is)

pub returns-in-6 : goal.returns-in-6
returns-in-6 c = rw (c.time_of-t.ensures, c.number24.ensures, c.in-6.is)

pub returns-in-255 : goal.returns-in-255
returns-in-255 c = rw (c.type_frame.ensures, c.in-255.is)

pub returns-in_default : goal.returns-in_default
returns-in_default c = sym (passed_over (λ (r : Reader). r.command) (λ (r : Reader). r.reads (bytes_of c.args.d)) unlisted readers [] c.args.d.1 c.in_default.in_default-own.rest)
