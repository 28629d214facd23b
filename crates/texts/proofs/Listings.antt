-- Laws of the listing.
--     whole_small                a name counts as one at most
--     sum-none, sum_more, modules_none, modules_more    the start and a turn of a loop that counts, and of the one over the addresses
--     module_room                the room of the next module's line
--     listing-fits               the longest listing
-- Assumes nothing.
use Rattle.std.specs.Prelude.{Option, Some, None, Ok, Err}
use mathlib.Core.Path.{◌≡◌, refl, ap}
use mathlib.Core.List.{List, [], ◌++◌}
use mathlib.Core.Bool.{Bool, true, false}
use Prim.Native.Nat.{ℕ, zero, suc, ◌+◌, ◌*◌, ◌%◌, ◌≤◌, ◌<◌}
use native.Mathlib.Numerals.{add-one}
use native.Mathlib.Omega.{arith}
use lib.Dec.{leb}
use lib.ListN.{length, replicate, length-append}
use borrow.Author.Tests.{leb-true, leb-false}
use Rattle.laws.proofs.Choices.{cond_elim}
use Rattle.shape.specs.Answers.{Answer}
use Rattle.kinds.specs.Types.{extent_of}
use Rattle.shape.specs.Limits.{addresses}
use Rattle.places.specs.Places.{name_length}
use Rattle.questions.specs.Question.{type_of, name_row}
use Rattle.questions.specs.Fills.{sum_to}
use Rattle.questions.specs.Replies.{reply}
use Rattle.texts.specs.Sheets.{is_whole, whole_name, whole_names, told_cells}
use Rattle.texts.specs.Text.{Fits, Written}
use Rattle.texts.specs.Lines.{header, count_line}
use Rattle.texts.specs.Listing.{sheet_text, typed_text, module_text, modules_text, fault_text, listing_text}
use Rattle.texts.specs.TextStatements.{line_room, ListingFits}
use Rattle.texts.proofs.Texts.{room_rest, lines_are_short}
use Rattle.replay.proofs.Runs.{one_or_none}

pub whole_small : (b : List ℕ) (address name : ℕ) → whole_name b address name ≤ 1
unfolding whole_name
whole_small b address name = one_or_none (is_whole (reply b address (name_row name) (replicate name_length 0)).answer)

pub sum_more : (f : ℕ → ℕ) (i : ℕ) → sum_to f (i + 1) ≡ sum_to f i + f i
unfolding sum_to
sum_more f i = ap (sum_to f) (add-one i)

pub sum-none : (f : ℕ → ℕ) → sum_to f 0 ≡ 0
unfolding sum_to
sum-none f = refl

pub modules_more : (b : List ℕ) (n : ℕ) → modules_text b (n + 1) ≡ modules_text b n ++ module_text b n
unfolding modules_text
modules_more b n = ap (modules_text b) (add-one n)

pub modules_none : (b : List ℕ) → modules_text b 0 ≡ []
unfolding modules_text
modules_none b = refl

-- the lines of fewer addresses are no longer
modules_within : (b : List ℕ) (n m : ℕ) → n ≤ m → length (modules_text b n) ≤ length (modules_text b m)
unfolding modules_text
modules_within b n zero h = let none : n ≡ 0 = omega arith in rw none (omega arith)
modules_within b n (suc m) h =
    cond_elim (λ (t : Bool). length (modules_text b n) ≤ length (modules_text b (suc m))) (leb n m) true false
    (λ t. let l = modules_within b n m (leb-true n m t) in omega (arith, length-append (modules_text b m) (module_text b m)))
    (λ t. let l : m < n = leb-false n m t in let all : n ≡ suc m = omega arith in rw all (omega arith))

-- so where those of all have room, the next line has
pub module_room : (b : List ℕ) {l o : List ℕ} {at r : ℕ} (i : ℕ) → i < addresses → Written l at (modules_text b i) o r → Fits l at (modules_text b addresses) → Fits o r (module_text b i)
module_room b {l} {o} {at} {r} i h w f =
    room_rest w (record { room = omega (arith, f.room, modules_within b (i + 1) addresses (omega arith), ap length (modules_more b i)) })

-- a line is short, or nothing
module_short : (b : List ℕ) (address : ℕ) → length (module_text b address) ≤ line_room
unfolding module_text sheet_text
module_short b address = go (reply b address type_of []).answer
  where
    go : (r : Answer) → length (typed_text b address r) ≤ line_room
    go (Ok (Some kind)) = lines_are_short.1 (address % 256) (kind % 256) (whole_names b address (extent_of (kind % 256)).names) (told_cells b address (extent_of (kind % 256)).cells)
    go (Ok None) = omega arith
    go (Err n) = omega arith

modules_short : (b : List ℕ) (n : ℕ) → length (modules_text b n) ≤ line_room * n
unfolding modules_text
modules_short b zero = omega arith
modules_short b (suc n) =
    let h : length (modules_text b n) ≤ line_room * n = modules_short b n in
    omega (arith, module_short b n, length-append (modules_text b n) (module_text b n))

fault-short : (fault : Option (ℕ × ℕ)) → length (fault_text fault) ≤ line_room
unfolding fault_text
fault-short None = omega arith
fault-short (Some (refusal, offset)) = lines_are_short.2 offset refusal

pub listing-fits : ListingFits
unfolding listing_text
listing-fits b stream =
    let h : List ℕ = header in
    let m : List ℕ = modules_text b addresses in
    let f : List ℕ = fault_text stream.fault in
    let c : List ℕ = count_line stream.heard stream.refused in
    omega (
      arith,
      lines_are_short.0,
      modules_short b addresses,
      fault-short stream.fault,
      lines_are_short.3 stream.heard stream.refused,
      length-append (h ++ m ++ f) c,
      length-append (h ++ m) f,
      length-append h m,
    )
