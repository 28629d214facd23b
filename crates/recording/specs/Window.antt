-- Reading through a window: a first part of the input, or a part that begins further on.
use Rattle.recording.specs.Record.{Entry, End, Broken}
use Rattle.std.specs.Prelude.{ℕ, ◌+◌, Bool, true, false, eqb, Ok, Some}
use Rattle.laws.specs.Refusals.{bad_number}

-- found in a first part of the input, it stands whatever follows: a record does, and a bad number; where the part ends, more is needed
abbrev pub settled : Entry → Bool
settled (Ok (Some r)) = true
settled End = false
settled (Broken refusal offset) = eqb refusal bad_number

-- a whole record
abbrev pub is_record : Entry → Bool
is_record (Ok (Some r)) = true
is_record End = false
is_record (Broken refusal offset) = false

-- the same, found k bytes further on
abbrev pub further : ℕ → Entry → Entry
further k (Ok (Some r)) = Ok (Some (record r { start = k + r.start; next = k + r.next }))
further k End = End
further k (Broken refusal offset) = Broken refusal (k + offset)
