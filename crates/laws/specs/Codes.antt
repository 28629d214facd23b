-- The number of each refusal that code gives, and answers in these numbers.
use Rattle.std.specs.Prelude.{ℕ, Result, Ok, Err}
use Rattle.laws.specs.Refusals.{bad_identifier, bad_form, bad_priority, bad_type, type_not_known, not_listed, wrong_length, wrong_priority, bad_field, code_at, no_room, nothing_kept, no_such_place, too_short, cut_off, bad_number, sid0_set}
use Rattle.laws.specs.declared.refusals.Refusal.{Refusal}
use Rattle.laws.specs.declared.refusals.Refusal.TheVariants.{BadIdentifier, BadForm, BadPriority, BadType, TypeNotKnown, NotListed, WrongLength, WrongPriority, BadField, NoRoom, NothingKept, NoSuchPlace, TooShort, CutOff, BadNumber, Sid0Set}

-- the paper's number, with the data byte that a 9 comes with
abbrev pub code_of : Refusal → ℕ
code_of BadIdentifier = bad_identifier
code_of BadForm = bad_form
code_of BadPriority = bad_priority
code_of BadType = bad_type
code_of TypeNotKnown = type_not_known
code_of NotListed = not_listed
code_of WrongLength = wrong_length
code_of WrongPriority = wrong_priority
code_of (BadField byte) = code_at bad_field byte
code_of NoRoom = no_room
code_of NothingKept = nothing_kept
code_of NoSuchPlace = no_such_place
code_of TooShort = too_short
code_of CutOff = cut_off
code_of BadNumber = bad_number
code_of Sid0Set = sid0_set

-- an answer, with the paper's number in the place of a refusal
abbrev pub coded : {A : Type 0} → Result A Refusal → Result A ℕ
coded (Ok a) = Ok a
coded (Err e) = Err (code_of e)

-- of a test: the number of the refusal, 0 where there is none
abbrev pub code_in : Result (Unit {0}) Refusal → ℕ
code_in (Ok done) = 0
code_in (Err e) = code_of e
