-- What is promised of a message that is laid out. The proof is proofs/Held.antt.
use Rattle.std.specs.Prelude.{ℕ, ◌<◌, ◌≡◌, List, ◌++◌, Some}
use Rattle.frame.specs.declared.identifiers.Address.{Address}
use Rattle.frame.specs.declared.messages.Message.{Message}
use Rattle.layouts.specs.Parts.{no_message, parts_of}
use Rattle.layouts.specs.Layout.{laid_bytes, held_in}

-- the message has a number: the type inside FF is one that the table has for its shape; and its location and seconds fit their fields, as
-- those of the code's `u16` and `u32` do
pub record Fitting (a : Address) (m : Message) : Type 0 where
  pub numbered : (parts_of a m).what < no_message
  pub location : (parts_of a m).location < 65536
  pub seconds : (parts_of a m).seconds < 4294967296

-- a message that is laid out and taken in again is the same message, whatever stands after it
abbrev pub LaidIsHeld : Type 0
LaidIsHeld = (a : Address) (m : Message) (after : List ℕ) → Fitting a m → held_in (laid_bytes (parts_of a m) ++ after) ≡ Some (a, m)
