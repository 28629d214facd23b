-- What a picture hears of a bench: each command that the bench took, as it was handed in, and then its replies, as they lie in the reply buffer. Lists of calls and
-- of frames have the LATEST first. Assumes nothing.
use Rattle.std.specs.Prelude.{ℕ, zero, suc, ◌+◌, ◌*◌, Bool, true, false, cond, List, [], ◌∷◌, eqb, get_or, take, drop, Ok, Err}
use Rattle.laws.specs.Limits.{AllBytes}
use Rattle.history.specs.Standing.{Frame, address}
use Rattle.taking.specs.Taking.{Outcome, taking, Taken}

-- a call: a frame, whose data are bytes, and the reply buffer lent with it
pub record Call : Type 0 where
  pub frame : Frame
  pub bytes : AllBytes frame.bytes
  pub buffer : List ℕ

abbrev pub called : List ℕ → Call → Outcome
called b c = taking b c.frame.identifier c.frame.remote c.frame.bytes c.buffer

-- the bench's bytes after calls
unfoldable pub after : List ℕ → List Call → List ℕ
after b [] = b
after b (c ∷ cs) = (called (after b cs) c).bench

-- a frame in twelve bytes: identifier low, identifier high, remote flag, count, eight data bytes; and n of them in a buffer
abbrev pub frame_in : List ℕ → Frame
frame_in s = record { identifier = get_or s 0 0 + 256 * get_or s 1 0; remote = get_or s 2 0; bytes = take (get_or s 3 0) (drop 4 s) }

unfoldable pub frames_in : ℕ → List ℕ → List Frame
frames_in zero buffer = []
frames_in (suc n) buffer = frame_in (take 12 buffer) ∷ frames_in n (drop 12 buffer)

-- the bench took the command: it answers a number of replies, and the frame is at its address
abbrev pub heard_if : Taken → Bool → Frame → List ℕ → List Frame
heard_if (Err n) here f buffer = []
heard_if (Ok n) false f buffer = []
heard_if (Ok n) true f buffer = f ∷ frames_in n buffer

unfoldable pub heard_of : ℕ → Frame → Outcome → List Frame
heard_of a f o = heard_if o.answer (eqb (address f) a) f o.buffer

-- frames heard one after the other, after those heard before
unfoldable pub on_top : List Frame → List Frame → List Frame
on_top [] before = before
on_top (f ∷ fs) before = on_top fs (f ∷ before)

-- all that is heard at the address a of the calls on the bench in b
unfoldable pub heard_after : ℕ → List ℕ → List Call → List Frame
heard_after a b [] = []
heard_after a b (c ∷ cs) = on_top (heard_of a c.frame (called (after b cs) c)) (heard_after a b cs)

-- those of some frames that are at the address
unfoldable pub frames_at : ℕ → List Frame → List Frame
frames_at a [] = []
frames_at a (f ∷ fs) = cond (eqb (address f) a) (f ∷ frames_at a fs) (frames_at a fs)
