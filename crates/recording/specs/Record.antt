-- A record: what reading one at an offset of the input finds.
use Rattle.std.specs.Prelude.{ℕ, ◌+◌, ◌-◌, ◌/◌, ◌%◌, List, cond, ltb, leb, length, Option, Some, None, Result, Ok, Err}
use Rattle.groups.specs.declared.scan.NumberFault.TheVariants.{Ends, Bad}
use Rattle.recording.specs.declared.records.Record.{Record}
use Rattle.recording.specs.declared.records.Fault.{Fault}
use Rattle.laws.specs.Codes.{code_of}
use Rattle.laws.specs.Refusals.{cut_off, bad_number}
use Rattle.recording.specs.Limits.{most_gap, most_word, most_count}
use Rattle.groups.specs.Number.{Found, number_at}

-- a fault, as the paper's number and the offset
abbrev pub told_fault : Fault → ℕ × ℕ
told_fault fault = (code_of fault.refusal, fault.offset)

-- an answer, with a fault told so
abbrev pub told : {A : Type 0} → Result A Fault → Result A (ℕ × ℕ)
told (Ok a) = Ok a
told (Err fault) = Err (told_fault fault)

-- what reading finds: a record, the end, or a fault
abbrev pub Entry : Type 0
Entry = Result (Option Record) (ℕ × ℕ)

-- a record by its numbers: its data are the `len` bytes from `start`, and `next` is past it
abbrev pub recorded : ℕ → ℕ → ℕ → ℕ → ℕ → ℕ → Entry
recorded gap identifier remote start len next =
    Ok (Some (record { gap = gap; identifier = identifier; remote = remote; start = start; len = len; next = next }))

pattern abbrev pub End : Entry
End = Ok None

-- a fault by its refusal number and its offset
pattern abbrev pub Broken : ℕ → ℕ → Entry
Broken refusal offset = Err (refusal, offset)

-- the input, of n bytes, ends inside a record: the offset is its length
abbrev pub cut_off_at : {A : Type 0} → ℕ → Result A (ℕ × ℕ)
cut_off_at n = Err (cut_off, n)

-- a number is too long, too large or not shortest: the offset is that of the byte which shows it
abbrev pub bad_number_at : {A : Type 0} → ℕ → Result A (ℕ × ℕ)
bad_number_at p = Err (bad_number, p)

-- a number that was read at `at`, with the offset past it; or the fault, where there is no number
abbrev pub past : List ℕ → ℕ → Found → Result (ℕ × ℕ) (ℕ × ℕ)
past s at (Ok (v, groups)) = Ok (v, at + groups)
past s at (Err Ends) = cut_off_at (length s)
past s at (Err (Bad p)) = bad_number_at p

-- what `rest` finds after a number, from its value and the offset past it; or the fault
abbrev pub followed : Result (ℕ × ℕ) (ℕ × ℕ) → (ℕ → ℕ → Entry) → Entry
followed (Ok (v, next)) rest = rest v next
followed (Err fault) rest = Err fault

-- the same after what was read at `at`
abbrev pub after : List ℕ → ℕ → Found → (ℕ → ℕ → Entry) → Entry
after s at found rest = followed (past s at found) rest

-- the data, `count` bytes from `start` on
abbrev pub read_data : List ℕ → ℕ → ℕ → ℕ → ℕ → ℕ → Entry
read_data s gap identifier remote count start =
    cond (leb count (length s - start)) (recorded gap identifier remote start count (start + count)) (cut_off_at (length s))

-- the count, and the data
abbrev pub read_count : List ℕ → ℕ → ℕ → ℕ → ℕ → Entry
read_count s gap identifier remote at = after s at (number_at s at most_count) (read_data s gap identifier remote)

-- the word, 2 × identifier + remote flag, and what follows
abbrev pub read_word : List ℕ → ℕ → ℕ → Entry
read_word s gap at = after s at (number_at s at most_word) (λ word next. read_count s gap (word / 2) (word % 2) next)

-- the record at `at`, where a gap is at most `most`; nothing there is the end, with no fault
unfoldable pub read_within : ℕ → List ℕ → ℕ → Entry
read_within most s at = cond (ltb at (length s)) (after s at (number_at s at most) (read_word s)) End

-- the record at `at`
abbrev pub read_record : List ℕ → ℕ → Entry
read_record s at = read_within most_gap s at
