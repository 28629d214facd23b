-- What holds of the listing's text; proofs/ proves each statement.
use Rattle.std.specs.Prelude.{ℕ, ◌+◌, ◌*◌, ◌≤◌, ◌≡◌, List, ◌++◌, length, take, drop, Ok}
use Rattle.shape.specs.Limits.{addresses}
use Rattle.replay.specs.Window.{Stream}
use Rattle.texts.specs.Text.{Written, letters}
use Rattle.texts.specs.Lines.{header, module_line, broken_line, count_line}
use Rattle.texts.specs.Listing.{listing_text, listing_answer}

-- text that has room is put whole
abbrev pub RoomIsEnough : Type 0
RoomIsEnough =
    (before : List ℕ) (at : ℕ) (text after : List ℕ) (next : ℕ) → at + length text ≤ length before → Written before at text after next
    → (next ≡ at + length text) × (after ≡ take at before ++ text ++ drop (at + length text) before)

-- one text after another is one text
abbrev pub TextsFollow : Type 0
TextsFollow =
    (before first between second after : List ℕ) (at next end : ℕ) → Written before at first between next → Written between next second after end
    → Written before at (first ++ second) after end

-- the room that every line has enough with
abbrev pub line_room : ℕ
line_room = 65

-- no line needs more
abbrev pub LinesAreShort : Type 0
LinesAreShort =
    (length header ≤ line_room) × ((address kind names cells : ℕ) → length (module_line address kind names cells) ≤ line_room)
    × ((offset refusal : ℕ) → length (broken_line offset refusal) ≤ line_room) × ((heard refused : ℕ) → length (count_line heard refused) ≤ line_room)

-- so a listing needs no more than the lines of all addresses and three others
abbrev pub ListingFits : Type 0
ListingFits = (b : List ℕ) (stream : Stream) → length (listing_text b stream) ≤ line_room * (addresses + 3)

-- and what was put lies in the buffer
abbrev pub PutIsInside : Type 0
PutIsInside = (b out : List ℕ) (stream : Stream) (n : ℕ) → listing_answer b out stream ≡ Ok n → n ≤ length out

-- the paper's listings: of the whole case, and of an empty recording; and the end of one that breaks off
abbrev pub ListingsRight : Type 0
ListingsRight =
    (header ++ module_line 0x2A 0x0A 0 4 ++ count_line 2 1 ≡ letters "address type names cells\n2A 0A 0 4\nheard 2 refused 1\n")
    × (header ++ count_line 0 0 ≡ letters "address type names cells\nheard 0 refused 0\n")
    × (broken_line 1 16 ++ count_line 10 0 ≡ letters "broken at byte 1 refusal 16\nheard 10 refused 0\n")
