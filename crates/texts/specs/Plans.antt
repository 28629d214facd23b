-- The line that says what is to be read of a module: its address, the number of reads and their starts in hexadecimal, or that there is nothing to read.
use Rattle.std.specs.Prelude.{ℕ, zero, suc, ◌+◌, ◌*◌, ◌/◌, ◌%◌, List, [], ◌++◌, cond, eqb, leb, length, get_or, drop}
use Rattle.laws.specs.Refusals.{too_short}
use Rattle.places.specs.Places.{places}
use Rattle.questions.specs.Question.{Reply, value, refusing}
use Rattle.reads.specs.Reads.{block}
use Rattle.reads.specs.Plan.{plan_of}
use Rattle.plan.specs.Replies.{memory_in, at_module}
use Rattle.texts.specs.Text.{letters, in_hex}
use Rattle.texts.specs.Lines.{numbered}

-- a start, after a blank, as the four digits of a location
abbrev pub start_text : ℕ → List ℕ
start_text start = letters " " ++ in_hex (start / 256) ++ in_hex (start % 256)

-- the first n of a list of starts
unfoldable pub starts_text : List ℕ → ℕ → List ℕ
starts_text starts zero = []
starts_text starts (suc n) = starts_text starts n ++ start_text (get_or starts n 0)

-- the number of reads and their starts; and where there are none
unfoldable pub reads_line : ℕ → List ℕ → List ℕ
reads_line address starts = in_hex address ++ numbered (letters " ") (length starts) ++ starts_text starts (length starts) ++ letters "\n"

unfoldable pub plan_line : ℕ → List ℕ → List ℕ
plan_line address starts = cond (eqb (length starts) 0) (in_hex address ++ letters " nothing to read\n") (reads_line address starts)

-- the room that the longest line takes: a start for each block of cells, of five letters
abbrev pub plan_room : ℕ
plan_room = 24 + 5 * (places / block)

-- the line of a module with this memory row, at the front of a buffer that has that room, and how many bytes it is; else 13
unfoldable pub lined : ℕ → List ℕ → List ℕ → Reply
lined address row out =
    cond (leb plan_room (length out))
    (value (length (plan_line (address % 256) (plan_of row))) (plan_line (address % 256) (plan_of row) ++ drop (length (plan_line (address % 256) (plan_of row))) out))
    (refusing too_short out)

-- at an address: 13 for the picture, 5, 13
abbrev pub line_reply : List ℕ → ℕ → List ℕ → Reply
line_reply b a out = at_module b a (λ s. lined a (memory_in b s) out) out
