-- The answers to the questions, as the standing frames tell them: `kind` is the type that they tell of the address asked, `known` what they tell of each
-- of its places. A reader must believe these definitions. Assumes nothing.
use Rattle.std.specs.Prelude.{ℕ, zero, suc, ◌+◌, ◌/◌, ◌%◌, Bool, cond, ◌&&◌, List, [], ◌∷◌, ◌++◌, ltb, leb, length, drop, Some, None, Ok}
use Rattle.std.proofs.Math.Option.{Option, none, some}
use Rattle.laws.specs.Refusals.{type_not_known, no_such_place, too_short}
use Rattle.laws.specs.Tab.{tab}
use Rattle.kinds.specs.Types.{extent_of}
use Rattle.shape.specs.Answers.{Answer}
use Rattle.places.specs.Places.{year_place, week_place, led_place, blind_place, character_place, cell_place}
use Rattle.questions.specs.Question.{Question, type_of, build_year, build_week, cell, led, blind, name_row, name_bytes, memory_row, memory_bytes, Reply, answering, value, refusing}
use Rattle.history.specs.Standing.{Frame, Known, unknown, told, standing_type}

-- the answer to a question on what is known: a value, or that it is not heard
abbrev pub answer_of : Known → Answer
answer_of unknown = Ok None
answer_of (told v) = Ok (Some v)

-- numbers of what is known: the value, or 256; and 1 for told, 0 for not heard
abbrev pub number_of : Known → ℕ
number_of unknown = 256
number_of (told v) = v

abbrev pub heard_of : Known → ℕ
heard_of unknown = 0
heard_of (told v) = 1

-- what LEDs, blinds and names are counted by: from 1 to most
abbrev pub one_to : ℕ → ℕ → Bool
one_to most n = leb 1 n && leb n most

-- a cell, LED or blind state; 12 where the module has none such
abbrev pub told_if : Bool → Known → List ℕ → Reply
told_if has k out = cond has (answering (answer_of k) out) (refusing no_such_place out)

-- a row written over the beginning of a buffer; what lies beyond keeps its contents
abbrev pub over : List ℕ → List ℕ → List ℕ
over row out = row ++ drop (length row) out

-- the answer v for a buffer that is filled, 13 for one too short for the row
unfoldable pub over_row : ℕ → List ℕ → List ℕ → Reply
over_row v row out = cond (leb (length row) (length out)) (value v (over row out)) (refusing too_short out)

-- what f says of each of n
abbrev pub each_of : (Known → ℕ) → ℕ → (ℕ → Known) → List ℕ
each_of f n known = tab n (λ i. f (known i))

-- numbers in two bytes each, low byte first
unfoldable pub low_first : List ℕ → List ℕ
low_first [] = []
low_first (n ∷ ns) = n % 256 ∷ n / 256 ∷ low_first ns

-- how many of n are told
unfoldable pub count_told : ℕ → (ℕ → Known) → ℕ
count_told zero known = 0
count_told (suc n) known = count_told n known + heard_of (known n)

-- the characters of a name: so many, counted from 1
abbrev pub name_size : ℕ
name_size = 16

abbrev pub name_in : ℕ → (ℕ → Known) → ℕ → ℕ → Known
name_in kind known n i = known (character_place kind n (i + 1))

-- a name: how many characters are heard, and the row of them, as it is laid out; 12 where the module has none such
abbrev pub told_name : (List ℕ → List ℕ) → ℕ → (ℕ → Known) → ℕ → List ℕ → Reply
told_name lay kind known n out =
    cond (one_to (extent_of kind).names n)
    (over_row (count_told name_size (name_in kind known n)) (lay (each_of number_of name_size (name_in kind known n))) out)
    (refusing no_such_place out)

-- the memory, a number for each cell
abbrev pub memory : ℕ → (ℕ → Known) → List ℕ
memory kind known = each_of number_of (extent_of kind).cells (λ i. known (cell_place kind i))

-- every question on a listed module
unfoldable pub told_as : ℕ → (ℕ → Known) → Question → List ℕ → Reply
told_as kind known type_of out = value kind out
told_as kind known build_year out = answering (answer_of (known year_place)) out
told_as kind known build_week out = answering (answer_of (known week_place)) out
told_as kind known (cell location) out = told_if (ltb location (extent_of kind).cells) (known (cell_place kind location)) out
told_as kind known (led n) out = told_if (one_to (extent_of kind).leds n) (known (led_place n)) out
told_as kind known (blind n) out = told_if (one_to (extent_of kind).blinds n) (known (blind_place n)) out
told_as kind known (name_row n) out = told_name (λ row. row) kind known n out
told_as kind known (name_bytes n) out = told_name low_first kind known n out
told_as kind known memory_row out = over_row 0 (memory kind known) out
told_as kind known memory_bytes out = over_row 0 (low_first (memory kind known)) out

-- and on any address: 5 where no module is listed
unfoldable pub told_reply : Option ℕ → (ℕ → Known) → Question → List ℕ → Reply
told_reply none known q out = refusing type_not_known out
told_reply (some kind) known q out = told_as kind known q out

-- the 256 addresses, as one yes or no for each of them
abbrev pub yes_if : Option ℕ → ℕ
yes_if none = 0
yes_if (some kind) = 1

unfoldable pub told_listed : List Frame → List ℕ → Reply
told_listed S out = over_row 0 (tab 256 (λ a. yes_if (standing_type S a))) out
