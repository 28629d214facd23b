-- The listing of a picture's bytes, with the counts and the fault of the recording that it heard.
use Rattle.std.specs.Prelude.{ℕ, zero, suc, ◌%◌, List, [], ◌++◌, cond, eqb, length, drop, Some, None, Ok, Err, Result, Option}
use Rattle.laws.specs.Refusals.{too_short}
use Rattle.shape.specs.Answers.{Answer}
use Rattle.questions.specs.Question.{type_of}
use Rattle.questions.specs.Replies.{reply}
use Rattle.shape.specs.Limits.{addresses}
use Rattle.kinds.specs.Types.{extent_of}
use Rattle.replay.specs.Window.{Stream}
use Rattle.replay.specs.Replay.{with_room}
use Rattle.texts.specs.Lines.{header, module_line, broken_line, count_line}
use Rattle.texts.specs.Sheets.{whole_names, told_cells}

-- the line of a listed module of a type
unfoldable pub sheet_text : List ℕ → ℕ → ℕ → List ℕ
sheet_text b address kind =
    module_line (address % 256) kind (whole_names b address (extent_of kind).names) (told_cells b address (extent_of kind).cells)

-- by the answer to the question on its type: the module's line, or nothing where none is listed
abbrev pub typed_text : List ℕ → ℕ → Answer → List ℕ
typed_text b address (Ok (Some kind)) = sheet_text b address (kind % 256)
typed_text b address (Ok None) = []
typed_text b address (Err n) = []

-- the line of the module at an address
unfoldable pub module_text : List ℕ → ℕ → List ℕ
module_text b address = typed_text b address (reply b address type_of []).answer

-- the lines of the modules at the first n addresses
unfoldable pub modules_text : List ℕ → ℕ → List ℕ
modules_text b zero = []
modules_text b (suc n) = modules_text b n ++ module_text b n

-- the line of a fault, where there is one
unfoldable pub fault_text : Option (ℕ × ℕ) → List ℕ
fault_text None = []
fault_text (Some (refusal, offset)) = broken_line offset refusal

-- the whole listing, in address order
unfoldable pub listing_text : List ℕ → Stream → List ℕ
listing_text b stream =
    header ++ modules_text b addresses ++ fault_text stream.fault ++ count_line stream.heard stream.refused

-- what `put_listing` answers: a picture too short, or a buffer too short for the whole listing, is 13; else the count of the listing's bytes
unfoldable pub listing_answer : List ℕ → List ℕ → Stream → Result ℕ ℕ
listing_answer b out stream =
    with_room b (length (listing_text b stream)) (length out) (Err too_short) (Ok (length (listing_text b stream)))

-- and the buffer then: the listing at its front, and every other byte as it was; a refusal changes none
unfoldable pub listing_bytes : List ℕ → List ℕ → Stream → List ℕ
listing_bytes b out stream =
    with_room b (length (listing_text b stream)) (length out) out (listing_text b stream ++ drop (length (listing_text b stream)) out)
