-- `shape::head::listed_slot` meets its contract. Assumes nothing.
use Prim.Native.Nat.{ℕ, ◌<◌, min}
use native.Mathlib.Omega.{arith}
use mathlib.Core.Path.{◌≡◌, sym, ◌∙◌}
use mathlib.Core.Bool.{true}
use mathlib.Core.List.{List}
use lib.Dec.{eqb, ltb}
use lib.ListN.{get_or}
use borrow.Author.Rules.{rules}
use borrow.Author.Tests.{ltb-true}
use Rattle.laws.proofs.Testing.{and_both}
use Rattle.shape.specs.Limits.{room}
use Rattle.shape.specs.Layout.{slot_at, count_at, record_at}
use Rattle.shape.specs.Head.{modules_of, believed, slot_of}
use Rattle.shape.proofs.head.listed_slot.Goals as goal

-- a slot that is believed is a module's, and no more than `room` are
inside : (b : List ℕ) (a s : ℕ) → believed b a s ≡ true → s < room
unfolding believed modules_of
inside b a s h =
    let below : s < min room (get_or b count_at 0) = ltb-true _ _ (and_both (ltb s (min room (get_or b count_at 0))) (eqb (get_or b (record_at s) 0) a) h).0 in
    omega arith

pub returns-then-believed : goal.returns-then-believed
unfolding slot_of
returns-then-believed c =
    let a = c.args in
    let e : c.byte_at-slot.result ≡ get_or a.picture.now (slot_at a.address.0) 0 = rw (← c.slot_at.ensures) c.byte_at-slot.ensures in
    let b = sym c.believed.ensures ∙ c.if-believed.true in
    record { value = rw (← e, b); in_room = inside a.picture.now a.address.0 c.byte_at-slot.result b }

pub returns-else-believed : goal.returns-else-believed
unfolding slot_of
returns-else-believed c =
    let a = c.args in
    let e : c.byte_at-slot.result ≡ get_or a.picture.now (slot_at a.address.0) 0 = rw (← c.slot_at.ensures) c.byte_at-slot.ensures in
    record { value = rw (← e, sym c.believed.ensures ∙ c.if-believed.false); in_room = tt }
