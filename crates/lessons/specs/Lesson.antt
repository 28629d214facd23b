-- Request W-214, "show this": a picture that first lists the bench from its type frame, hears each command that the bench took and then its replies, hears
-- nothing else at that address and takes no step back shows the bench's own value of every told cell, character and LED; it accepts every one of those
-- frames; and after CB and FA it shows all of them. Frames at other addresses may come between. The proof is proofs/Lesson.antt.
use Rattle.std.specs.Prelude.{ℕ, ◌+◌, ◌-◌, ◌*◌, ◌<◌, ◌≤◌, ◌≡◌, ◌⊎◌, List, [], ◌∷◌, ◌++◌, map, length, get_or, take, Ok, Some}
use Rattle.places.specs.Places.{led_place}
use Rattle.shape.specs.Layout.{size}
use Rattle.questions.specs.Question.{type_of, cell, led, name_row, value}
use Rattle.questions.specs.Replies.{reply}
use Rattle.history.specs.Standing.{most_listed, deepest, Frame, address, listed, hear, standing}
use Rattle.history.specs.Demand3.{doing, run_bytes}
use Rattle.history.specs.InMemory.{OneTo, cell_of}
use Rattle.replies.specs.Bench.{own}
use Rattle.replies.specs.Bench as bench
use Rattle.bench.specs.Making.{making}
use Rattle.lessons.specs.Hearing.{Call, called, after, frame_in, heard_after, frames_at}

-- ---- frames in numbers: of low priority, at the address a
abbrev pub remote_to : ℕ → Frame
remote_to a = record { identifier = 1536 + 2 * a; remote = 1; bytes = [] }

abbrev pub command_to : ℕ → List ℕ → Frame
command_to a bytes = record { identifier = 1536 + 2 * a; remote = 0; bytes = bytes }

-- ---- a lesson
-- a bench as `bench_new` makes it, and a first call: the type request, with room for its reply
pub record Start : Type 0 where
  pub lent : List ℕ
  pub address : ℕ
  pub cells : List ℕ
  pub version : ℕ
  pub year : ℕ
  pub week : ℕ
  pub made : (making lent address cells version year week).outcome ≡ Ok tt
  pub first : Call
  pub asks : first.frame ≡ remote_to address
  pub room : 12 ≤ length first.buffer

abbrev pub at_start : Start → List ℕ
at_start s = (making s.lent s.address s.cells s.version s.year s.week).buffer

-- the bench's type frame, as it lies in the reply buffer
abbrev pub type_frame : Start → Frame
type_frame s = frame_in (take 12 (called (at_start s) s.first).buffer)

-- what a picture of the depth d hears: frames before the type frame, none of them at the bench's address but the request for it; then the type frame, for which
-- the picture has room; and since then frames of which those at the address are the commands that the bench took, each with its replies
pub record Listens (d : ℕ) (s : Start) (calls : List Call) : Type 0 where
  pub before : List Frame
  pub since : List Frame
  pub quiet : (frames_at s.address before ≡ []) ⊎ (frames_at s.address before ≡ remote_to s.address ∷ [])
  pub room : listed (standing d (map hear before)) < most_listed
  pub follows : frames_at s.address since ≡ heard_after s.address (at_start s) calls

abbrev pub all_heard : {d : ℕ} {s : Start} {calls : List Call} → Listens d s calls → List Frame
all_heard {d} {s} l = l.since ++ (type_frame s ∷ l.before)

-- ---- what is shown
-- every told cell, character and LED is the bench's own, by the values that the questions give; a character of a name is a cell (W-204)
pub record Truthful (picture : List ℕ) (a : ℕ) (b : List ℕ) : Type 0 where
  pub type : (out : List ℕ) → reply picture a type_of out ≡ value 0x0A out
  pub cells : (l v : ℕ) (out : List ℕ) → reply picture a (cell l) out ≡ value v out → bench.cell b l ≡ v
  pub leds : (n v : ℕ) (out : List ℕ) → reply picture a (led n) out ≡ value v out → own b (led_place n) ≡ v
  pub characters : (n i v : ℕ) (out : List ℕ) → OneTo 8 n → OneTo 16 i → 16 ≤ length out → get_or (reply picture a (name_row n) out).buffer (i - 1) 0 ≡ v → v < 256
      → bench.cell b (cell_of n i) ≡ v

abbrev pub LessonShown : Type 0
LessonShown =
    (picture : List ℕ) → size ≤ length picture → (d : ℕ) → d ≤ deepest → (s : Start) (calls : List Call) (l : Listens d s calls)
    → Truthful (run_bytes picture d (map hear (all_heard l))) s.address (after (at_start s) calls)

-- ---- and it is no empty promise
-- every frame at the address is accepted as it is heard
unfoldable pub AllAccepted : List ℕ → ℕ → ℕ → List Frame → Type 0
AllAccepted picture d a [] = Unit {0}
AllAccepted picture d a (f ∷ fs) =
    (address f ≡ a → (doing (hear f) (run_bytes picture d (map hear fs))).outcome ≡ Ok tt) × AllAccepted picture d a fs

abbrev pub LessonHeard : Type 0
LessonHeard =
    (picture : List ℕ) → size ≤ length picture → (d : ℕ) → d ≤ deepest → (s : Start) (calls : List Call) (l : Listens d s calls)
    → AllAccepted picture d s.address (all_heard l)

-- every cell, character and LED is told
pub record Whole (picture : List ℕ) (a : ℕ) (b : List ℕ) : Type 0 where
  pub cells : (l : ℕ) → l < 256 → (out : List ℕ) → reply picture a (cell l) out ≡ value (bench.cell b l) out
  pub leds : (n : ℕ) → OneTo 8 n → (out : List ℕ) → reply picture a (led n) out ≡ value (own b (led_place n)) out
  pub names : (n : ℕ) → OneTo 8 n → (out : List ℕ) → 16 ≤ length out → (reply picture a (name_row n) out).answer ≡ Ok (Some 16)

-- where the last two commands are CB and FA, with room for 64 replies and for one
pub record DumpAndStatus (a : ℕ) (dump status : Call) : Type 0 where
  pub channel : ℕ
  pub asks_dump : dump.frame ≡ command_to a (0xCB ∷ [])
  pub asks_status : status.frame ≡ command_to a (0xFA ∷ channel ∷ [])
  pub dump_room : 768 ≤ length dump.buffer
  pub status_room : 12 ≤ length status.buffer

abbrev pub LessonWhole : Type 0
LessonWhole =
    (picture : List ℕ) → size ≤ length picture → (d : ℕ) → d ≤ deepest → (s : Start) (calls : List Call) (dump status : Call)
    → DumpAndStatus s.address dump status → (l : Listens d s (status ∷ dump ∷ calls))
    → Whole (run_bytes picture d (map hear (all_heard l))) s.address (after (at_start s) (status ∷ dump ∷ calls))
