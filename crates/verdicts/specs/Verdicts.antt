-- What a bench makes of a frame, before it looks at the room for its replies. Assumes nothing.
use Rattle.std.specs.Prelude.{ℕ, Bool, ◌&&◌, cond, List, [], ◌∷◌, eqb, Result, Ok, Err, Option, Some, None}
use Rattle.laws.specs.Refusals.{bad_identifier, sid0_set, bad_form, bad_priority, not_listed}
use Rattle.laws.specs.Tests.{among}
use Rattle.kinds.specs.Types.{vmb8ir}
use Rattle.frame.specs.Bytes.{byte}
use Rattle.frame.specs.declared.messages.Message.{Message}
use Rattle.judging.specs.Reading.{reading, Reading}
use Rattle.shape.specs.Limits.{bus_address}

-- the message of a frame that is taken, none for a frame for another address, or the number of a refusal
abbrev pub Verdict : Type 0
Verdict = Result (Option Message) ℕ

-- the reader's refusals that come before the address is looked at, and the commands that only a module sends
abbrev pub first_refusals : List ℕ
first_refusals = bad_identifier ∷ sid0_set ∷ bad_form ∷ bad_priority ∷ []

abbrev pub sent_only : List ℕ
sent_only = 0x00 ∷ 0xFE ∷ 0xCC ∷ 0xDA ∷ 0xF0 ∷ 0xF1 ∷ 0xF2 ∷ 0xEB ∷ 0xFF ∷ []

-- a refusal of the reader that is one of the first decides; else the rest does
abbrev pub first_of : Reading → Verdict → Verdict
first_of (Ok (a, m)) rest = rest
first_of (Err n) rest = cond (among n first_refusals) (Err n) rest

abbrev pub taken_if : Reading → Verdict
taken_if (Ok (a, m)) = Ok (Some m)
taken_if (Err n) = Err n

-- given what the frame reads as, whether it is for the bench's address, and whether only a module sends its command: silence at another address, 6 for
-- such a command, then the reader's refusal
unfoldable pub judged_if : Reading → Bool → Bool → Verdict
judged_if r here sent = first_of r (cond here (cond sent (Err not_listed) (taken_if r)) (Ok None))

unfoldable pub judged : ℕ → ℕ → ℕ → List ℕ → Verdict
judged address identifier remote s =
    judged_if (reading vmb8ir identifier remote s) (eqb (bus_address identifier) address) (eqb remote 0 && among (byte 1 s) sent_only)
