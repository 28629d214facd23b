-- Demand 3's side: which frames stand, how many steps back are kept, and what the standing frames tell. A reader must believe these definitions;
-- they know nothing of slots, logs and bytes. Lists of frames and of events have the LATEST first. Assumes nothing.
use Rattle.shape.specs.Answers.{Outcome}
use Rattle.std.specs.Prelude.{ℕ, zero, suc, pred, min, Bool, true, false, cond, List, [], ◌∷◌, eqb, ltb, Ok, Err}
use Rattle.std.proofs.Math.Option.{Option, none, some}
use Rattle.laws.specs.Refusals.{no_room, nothing_kept}
use Rattle.frame.specs.Identifiers.{address_of}
use Rattle.kinds.specs.Types.{no_type}
use Rattle.judging.specs.Reading.{reading}
use Rattle.places.specs.Runs.{Saying, silent, asks, tells, said, Meaning, refuses, names, enters, read_as}

-- the most modules that are listed, and the greatest depth of a way back: the most steps back that a fresh picture may be told to keep
abbrev pub most_listed : ℕ
most_listed = 16

abbrev pub deepest : ℕ
deepest = 64

-- A frame as it is heard.
pub record Frame : Type 0 where
  pub identifier : ℕ
  pub remote : ℕ
  pub bytes : List ℕ

-- the address that it is about
abbrev pub address : Frame → ℕ
address f = (address_of f.identifier).0

-- the type handed to the reader: 0 where none is known
abbrev pub handed : Option ℕ → ℕ
handed none = no_type
handed (some kind) = kind

-- an entry of the type that is known already changes only the build
unfoldable pub sense : Option ℕ → Meaning → Meaning
sense t (refuses n) = refuses n
sense t (names r) = names r
sense none (enters k r) = enters k r
sense (some t) (enters k r) = cond (eqb t k) (names r) (enters k r)

-- what a frame means, by the type known for its address
unfoldable pub meaning : Option ℕ → Frame → Meaning
meaning t f = sense t (read_as (handed t) (reading (handed t) f.identifier f.remote f.bytes))

-- The type known for an address: that of the latest standing frame that entered it.
-- (whether the frame is at the address; what it means; the type known before it)
unfoldable pub typed : Bool → Meaning → Option ℕ → Option ℕ
typed false m before = before
typed true (refuses n) before = before
typed true (names r) before = before
typed true (enters k r) before = some k

unfoldable pub standing_type : List Frame → ℕ → Option ℕ
standing_type [] a = none
standing_type (f ∷ S) a = typed (eqb (address f) a) (meaning (standing_type S (address f)) f) (standing_type S a)

-- What is known of a place.
pub data Known : Type 0 where
  unknown : Known
  told : ℕ → Known

-- what is known of a place after it is spoken of
unfoldable pub after : Saying → Known → Known
after silent before = before
after asks before = unknown
after (tells v) before = told v

-- What the standing frames tell of the place p of the module at a: the latest of them at a that names the place decides, and an entry hides all before it.
unfoldable pub gave : Bool → Meaning → ℕ → Known → Known
gave false m p before = before
gave true (refuses n) p before = before
gave true (names r) p before = after (said r p) before
gave true (enters k r) p before = after (said r p) unknown

unfoldable pub latest : List Frame → ℕ → ℕ → Known
latest [] a p = unknown
latest (f ∷ S) a p = gave (eqb (address f) a) (meaning (standing_type S (address f)) f) p (latest S a p)

-- How many modules are listed: the standing frames that entered an address with no module.
unfoldable pub more : Option ℕ → Meaning → ℕ → ℕ
more t (refuses c) n = n
more t (names r) n = n
more none (enters k r) n = suc n
more (some t) (enters k r) n = n

unfoldable pub listed : List Frame → ℕ
listed [] = 0
listed (f ∷ S) = more (standing_type S (address f)) (meaning (standing_type S (address f)) f) (listed S)

-- How a frame is judged. An exchange is accepted too; it is told apart because it empties the way back.
pub data Judgement : Type 0 where
  refused : ℕ → Judgement
  accepted : Judgement
  exchanged : Judgement

unfoldable pub judged : Option ℕ → ℕ → Meaning → Judgement
judged t n (refuses c) = refused c
judged t n (names r) = accepted
judged none n (enters k r) = cond (ltb n most_listed) accepted (refused no_room)
judged (some t) n (enters k r) = exchanged

unfoldable pub judgement : List Frame → Frame → Judgement
judgement S f = judged (standing_type S (address f)) (listed S) (meaning (standing_type S (address f)) f)

-- what is answered outside
unfoldable pub outcome_of : Judgement → Outcome
outcome_of (refused n) = Err n
outcome_of accepted = Ok tt
outcome_of exchanged = Ok tt

pub data Event : Type 0 where
  hear : Frame → Event
  back : Event

-- An accepted frame stands; a granted step back strikes off the last.
unfoldable pub stands : Judgement → Frame → List Frame → List Frame
stands (refused n) f S = S
stands accepted f S = f ∷ S
stands exchanged f S = f ∷ S

unfoldable pub but_latest : List Frame → List Frame
but_latest [] = []
but_latest (f ∷ S) = S

unfoldable pub struck : ℕ → List Frame → List Frame
struck zero S = S
struck (suc k) S = but_latest S

-- An accepted frame adds 1 up to the depth; an exchange sets the count to 0.
unfoldable pub counted : ℕ → Judgement → ℕ → ℕ
counted depth (refused n) k = k
counted depth accepted k = min depth (suc k)
counted depth exchanged k = 0

-- from a fresh picture whose way back has the depth d
unfoldable mutual
  pub standing : ℕ → List Event → List Frame
  standing d [] = []
  standing d (hear f ∷ h) = stands (judgement (standing d h) f) f (standing d h)
  standing d (back ∷ h) = struck (kept d h) (standing d h)

  pub kept : ℕ → List Event → ℕ
  kept d [] = 0
  kept d (hear f ∷ h) = counted d (judgement (standing d h) f) (kept d h)
  kept d (back ∷ h) = pred (kept d h)

-- The answer to the next event: a step back is granted exactly while the count kept is above zero.
unfoldable pub granted : ℕ → Judgement
granted zero = refused nothing_kept
granted (suc k) = accepted

unfoldable pub answered : ℕ → List Event → Event → Judgement
answered d h (hear f) = judgement (standing d h) f
answered d h back = granted (kept d h)
