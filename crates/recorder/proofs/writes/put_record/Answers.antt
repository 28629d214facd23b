-- `recorder::writes::put_record` meets its contract. Assumes nothing.
use Prim.Native.Nat.{◌+◌, ◌≤◌}
use mathlib.Core.Path.{ap, sym, ◌∙◌}
use native.Mathlib.Omega.{arith}
use lib.ListN.{length, length-take, length-drop}
use Rattle.laws.proofs.Stores.{stored_in_part}
use Rattle.std.specs.Prelude.{Ok}
use Rattle.recorder.specs.Write.{record_bytes}
use Rattle.recorder.proofs.Writing.{put_out_of_range, put_no_room, put-done}
use Rattle.recorder.proofs.writes.put_record.Goals as goal

pub returns-then-not-in_range : goal.returns-then-not-in_range
returns-then-not-in_range c =
    let a = c.args in
    let both = put_out_of_range a.buf.now a.at a.gap a.identifier a.remote a.«data».now (sym c.in_range.ensures ∙ c.if-not-in_range.true) in record { value = both.0; buf_after = both.1 }

pub record_size-size-requires : goal.record_size-size-requires
record_size-size-requires c = sym c.in_range.ensures ∙ c.if-not-in_range.false

pub returns-then-buf-at : goal.returns-then-buf-at
returns-then-buf-at c =
    let a = c.args in
    let both = put_no_room a.buf.now a.at a.gap a.identifier a.remote a.«data».now (sym c.in_range.ensures ∙ c.if-not-in_range.false) (omega arith) in record { value = both.0; buf_after = both.1 }

pub returns-then-buf-at-2 : goal.returns-then-buf-at-2
returns-then-buf-at-2 c =
    let a = c.args in
    let both = put_no_room a.buf.now a.at a.gap a.identifier a.remote a.«data».now (sym c.in_range.ensures ∙ c.if-not-in_range.false) (omega (arith, c.record_size-size.ensures)) in record { value = both.0; buf_after = both.1 }

pub fill-requires : goal.fill-requires
fill-requires c = record { data_value = sym c.in_range.ensures ∙ c.if-not-in_range.false; data_in_bounds = simp (length-take, length-drop) (omega (arith, c.record_size-size.ensures)) }

pub returns : goal.returns
returns c =
    let a = c.args in
    let bytes = record_bytes a.gap a.identifier a.remote a.«data».now in
    let fits : a.at + length bytes ≤ length a.buf.now = omega (arith, c.record_size-size.ensures) in
    let done = put-done a.buf.now a.at a.gap a.identifier a.remote a.«data».now (sym c.in_range.ensures ∙ c.if-not-in_range.false) fits in
    record { value = ap Ok c.record_size-size.ensures ∙ done.0; buf_after = stored_in_part a.buf.now a.at bytes c.fill.new.out fits c.fill.ensures ∙ done.1 }
