-- The questions on the picture's bytes, for every list of bytes. Refusals in order: 13 for the picture, 5, 12, 13 for the buffer to fill.
-- Assumes nothing.
use Rattle.std.specs.Prelude.{ℕ, ◌+◌, ◌&&◌, cond, List, eqb, ltb, get_or, Some, None, Result, Ok, Err}
use Rattle.laws.specs.Refusals.{type_not_known, no_such_place, too_short}
use Rattle.shape.specs.Answers.{Answer}
use Rattle.shape.specs.Limits.{room, addresses}
use Rattle.places.specs.Places.{places, year_place, week_place, cell_asked, led_asked, blind_asked, has_name, row_of_name, cell_row}
use Rattle.shape.specs.Layout.{place_at}
use Rattle.shape.specs.Head.{short, kept_of, no_slot, slot_of, kind_in}
use Rattle.questions.specs.Question.{Question, type_of, build_year, build_week, cell, led, blind, name_row, name_bytes, memory_row, memory_bytes, Reply, answering, value, refusing}
use Rattle.questions.specs.Fills.{filling, value_at, numbers_fill, bytes_fill, heard_in}

-- the slot of any number asked for: an address above 255 has none
unfoldable pub slot_asked : List ℕ → ℕ → ℕ
slot_asked b a = cond (ltb a addresses) (slot_of b a) no_slot

-- the slot of the module that is asked: 13 for a picture too short, 5 where no module is listed
unfoldable pub module_asked : List ℕ → ℕ → Result ℕ ℕ
module_asked b a = cond (short b) (Err too_short) (cond (ltb (slot_asked b a) room) (Ok (slot_asked b a)) (Err type_not_known))

-- the two bytes of a place: 0 and 1 where it is not heard, else a number, low byte first
abbrev pub answer_at : List ℕ → ℕ → Answer
answer_at b o = cond (eqb (get_or b o 0) 0 && eqb (get_or b (o + 1) 0) 1) (Ok None) (Ok (Some (value_at b o)))

-- a place of the module in slot s: 12 for no place
unfoldable pub place_reply : List ℕ → ℕ → ℕ → List ℕ → Reply
place_reply b s p out = cond (ltb p places) (answering (answer_at b (place_at s p)) out) (refusing no_such_place out)

-- a name that the type may not have: 12
abbrev pub named : ℕ → ℕ → Reply → List ℕ → Reply
named kind n r out = cond (has_name kind n) r (refusing no_such_place out)

-- by the type of the module in slot s; of a name, how many of its characters are heard
unfoldable pub reply_as : List ℕ → ℕ → ℕ → Question → List ℕ → Reply
reply_as b s kind type_of out = value kind out
reply_as b s kind build_year out = place_reply b s year_place out
reply_as b s kind build_week out = place_reply b s week_place out
reply_as b s kind (cell location) out = place_reply b s (cell_asked kind location) out
reply_as b s kind (led n) out = place_reply b s (led_asked kind n) out
reply_as b s kind (blind n) out = place_reply b s (blind_asked kind n) out
reply_as b s kind (name_row n) out = named kind n (numbers_fill (heard_in b s (row_of_name kind n)) b s (row_of_name kind n) out) out
reply_as b s kind (name_bytes n) out = named kind n (bytes_fill (heard_in b s (row_of_name kind n)) b s (row_of_name kind n) out) out
reply_as b s kind memory_row out = numbers_fill 0 b s (cell_row kind) out
reply_as b s kind memory_bytes out = bytes_fill 0 b s (cell_row kind) out

-- of the module in a slot, and at an address
unfoldable pub reply_in : List ℕ → ℕ → Question → List ℕ → Reply
reply_in b s q out = cond (ltb s room) (reply_as b s (kind_in b s) q out) (refusing type_not_known out)

unfoldable pub reply : List ℕ → ℕ → Question → List ℕ → Reply
reply b a q out = cond (short b) (refusing too_short out) (reply_in b (slot_asked b a) q out)

-- ---- questions on no address
-- the count kept
unfoldable pub kept_answer : List ℕ → Answer
kept_answer b = cond (short b) (Err too_short) (Ok (Some (kept_of b)))

-- which addresses are listed
abbrev pub listed_if : List ℕ → ℕ → ℕ
listed_if b a = cond (ltb (slot_of b a) room) 1 0

unfoldable pub listing : List ℕ → List ℕ → Reply
listing b out = cond (short b) (refusing too_short out) (filling 0 (listed_if b) addresses out)
